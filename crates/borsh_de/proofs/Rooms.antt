-- Elements that are taken from a room: its bytes are cut into pieces, and each piece decodes to an element.
use Rattle.std.proofs.Common.{◌≡◌, ℕ, zero, suc, ◌+◌, ◌*◌, ◌-◌, ◌<◌, true, List, [], ◌∷◌, ◌++◌, length, Result, Ok, Err, OnOk, MatchResult, Bor, ◌∙◌, ap, subst, arith, length-append}
use Rattle.std.specs.Iterator.{Drains}
use Rattle.std.specs.Iterator.Adapters.{map_source, map_steps}
use Rattle.std.specs.Slice.Iter.{chunks_exact_rest, chunks_exact_size, chunks_exact_steps}
use Rattle.std.specs.Fn.{Called}
use Rattle.std.specs.declared.iter.Map.{Map}
use Rattle.std.specs.declared.slice.ChunksExact.{ChunksExact}
use denote.Param.Members.{Mut}
use Rattle.borsh_codec.specs.Codec.{Codec}
use Rattle.borsh_codec.specs.Shapes.{DecodesEach}
use Rattle.borsh_codec.proofs.Laws.Lists.{nil_of_length}
use Rattle.borsh_de.specs.FixedWidth.{AppendsDecoded}

-- fewer bytes than one piece has are none, where whole pieces are left
none_left : (n m w : ℕ) → m ≡ n * w → m < w → m ≡ 0
none_left zero m w e h = omega (arith, e)
none_left (suc n) m w e h = absurd (omega (arith, e, h))

one_fewer : (n m k w : ℕ) → m ≡ n * w → m ≡ w + k → 0 < w → k ≡ (n - 1) * w
one_fewer zero m k w e f h = absurd (omega (arith, e, f, h))
one_fewer (suc n) m k w e f h = let p : suc n - 1 ≡ n = omega arith in rw p (omega (arith, e, f))

module _ {T F : Type 0} (g : Mut F (Bor (List ℕ) × Unit {0}) T) (c : Codec T) (w : ℕ) (some : 0 < w)
    (each : (f : F) (x : Bor (List ℕ)) (r : T) (q : F) → length x.now ≡ w → Called g f (x, tt) r q → c.decodes true x.now r) where
  -- what comes through `map` from the pieces of so many bytes
  taken : (n : ℕ) (s : Map (ChunksExact ℕ) F) (xs : List T) → chunks_exact_size (map_source s) ≡ w → length (chunks_exact_rest (map_source s)) ≡ n * w
      → Drains (map_steps chunks_exact_steps g) s xs → DecodesEach (c.decodes true) (chunks_exact_rest (map_source s)) xs
  taken n s [] size long d =
      let end : length (chunks_exact_rest (map_source d.1.0)) < chunks_exact_size (map_source d.1.0) = d.1.2.0.1.0 in
      let here : s ≡ d.1.0 = d.1.1 in
      let short : length (chunks_exact_rest (map_source s)) < w = omega (arith, ap (λ z. length (chunks_exact_rest (map_source z))) here, ap (λ z. chunks_exact_size (map_source z)) here, end, size) in
      nil_of_length (chunks_exact_rest (map_source s)) (none_left n _ w long short)
  taken n s (x ∷ xs) size long d =
      let j = d.1.1.0 in
      let step = d.1.1.1 in
      let cut = step.1.1.0 in
      let piece : length step.0.now ≡ w = step.1.1.1 ∙ size in
      let left : length (chunks_exact_rest (map_source s)) ≡ w + length (chunks_exact_rest (map_source j)) = ap length cut ∙ length-append step.0.now (chunks_exact_rest (map_source j)) ∙ ap (λ k. k + length (chunks_exact_rest (map_source j))) piece in
      record {
        first = step.0.now;
        second = chunks_exact_rest (map_source j);
        whole = cut;
        left = each _ step.0 x _ piece step.2;
        right = taken (n - 1) j xs (step.1.0 ∙ size) (one_fewer n _ _ w long left some) (d.0, (d.1.0, d.1.1.2, d.1.2));
      }

  -- what `extend` did with them
  pub appended : {E : Type 0} (r : Result (Unit {0}) E) (n : ℕ) (s : Map (ChunksExact ℕ) F) (before after : List T) {X Y : List T → Type 0} (Q : Map (ChunksExact ℕ) F → List T → Type 0)
      → chunks_exact_size (map_source s) ≡ w → length (chunks_exact_rest (map_source s)) ≡ n * w
      → ((it : Map (ChunksExact ℕ) F) × (xs : List T) × (it ≡ s) × ((after ≡ before ++ xs) × X xs × Y xs) × MatchResult r (λ _. Drains (map_steps chunks_exact_steps g) it xs) (λ _. Q it xs))
      → OnOk r (AppendsDecoded c (chunks_exact_rest (map_source s)) before after)
  appended (Ok u) n s before after Q size long ran =
      record { more = ran.1; items = ran.3.0; decodes = taken n s ran.1 size long (subst (λ z. Drains (map_steps chunks_exact_steps g) z ran.1) ran.2 ran.4) }
  appended (Err e) n s before after Q size long ran = tt
