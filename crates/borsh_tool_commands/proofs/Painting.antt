-- What is added to a text in colours.
use Rattle.std.proofs.Common.{◌≡◌, ℕ, Bool, true, false, List, [], ◌∷◌, ◌++◌, if◌then◌else◌, inl, inr, sym, ◌∙◌, ap, subst, append_assoc, append-nil, Result, Ok, Err}
use Rattle.std.specs.Prelude.{Option, OnOk, OnErr, IfErr, ◌⊎◌}
use Rattle.borsh_walks.specs.Container.{Shape}
use Rattle.borsh_io.specs.Sink.{WriterModel, WriterLaws}
use Rattle.borsh_tool_commands.specs.Colored.{IsShowFailure, Paints}
use Rattle.borsh_tool_commands.specs.Many.{WritesMade, IsUnwritten}
use Rattle.borsh_tool_commands.specs.declared.failure.Failure.{Failure}
use Rattle.std.specs.List.{All, AllByRecursion}
use Rattle.std.proofs.lemmas.List.Elements.{recursion_from_All}
use Rattle.std.proofs.Math.Logic.{∥∥₁_elim, ∥∥₁_prop, ∥∥₁_map}
use Rattle.borsh_json.specs.Ascii.{IsPlain}
use Rattle.borsh_tool_commands.specs.Colors.{Painted, IsPainted, color_code}
use Rattle.borsh_tool_commands.specs.Colors.Painted.{nothing, plain, code}
use Rattle.borsh_tool_commands.specs.declared.colors.Color.{Color}

both : {b : Bool} {xs ys : List ℕ} → Painted b xs → Painted b ys → Painted b (xs ++ ys)
both nothing q = q
both (plain x h p) q = plain x h (both p q)
both (code c h p) q = code c h (both p q)

all_plain : (b : Bool) (xs : List ℕ) → AllByRecursion IsPlain xs → Painted b xs
all_plain b [] h = nothing
all_plain b (x ∷ xs) h = plain x h.0 (all_plain b xs h.1)

pub of_nothing : (b : Bool) → IsPainted b []
of_nothing b = ∣ nothing ∣₁

pub of_plain : (b : Bool) (xs : List ℕ) → All IsPlain xs → IsPainted b xs
of_plain b xs h = ∣ all_plain b xs (recursion_from_All IsPlain xs h) ∣₁

pub of_code : {b : Bool} (c : Color) → b ≡ true → IsPainted b (color_code c)
of_code c h = ∣ code c h nothing ∣₁

-- two such texts are one
pub joined : {b : Bool} {xs ys : List ℕ} → IsPainted b xs → IsPainted b ys → IsPainted b (xs ++ ys)
joined p q = ∥∥₁_elim p ∥∥₁_prop (λ p. ∥∥₁_map q (λ q. both p q))

-- a text to which another one was added, or nothing
pub grown : {b : Bool} {old xs new : List ℕ} (added : Bool) → IsPainted b old → IsPainted b xs → new ≡ (if added then old ++ xs else old) → IsPainted b new
grown true p q e = rw e (joined p q)
grown false p q e = rw e p

-- ---- what was written
-- a text that has no codes but those of colours
abbrev pub PaintedSoFar : {W : Type 0} → WriterModel W → Bool → W → W → Type 0
PaintedSoFar w colored old new = (written : List ℕ) × w.wrote old new written × IsPainted colored written

-- nothing more is written, since there was an error
pub painted_stop : {W A E : Type 0} {w : WriterModel W} {colored : Bool} {a b : W} (r : Result A E) (e : E) → r ≡ Err e → PaintedSoFar w colored a b → Paints w colored a b r
painted_stop {w = w} {colored = colored} {a = a} {b = b} r e q p = subst (λ r. Paints w colored a b r) (sym q) (record { written = p.0; lost = []; wrote = p.1; painted = subst (λ l. IsPainted colored l) (sym (append-nil p.0)) p.2; whole = tt })

-- lines that can't be written
pub unwritten_shown : {A : Type 0} (C : List ℕ → Option Shape) (root path bytes : List ℕ) (r : Result A Failure) → OnErr r (IsUnwritten r) → IfErr r (IsShowFailure C root path bytes)
unwritten_shown C root path bytes (Ok v) h = tt
unwritten_shown C root path bytes (Err f) h = λ n. absurd (n h)

module _ {W : Type 0} {w : WriterModel W} (laws : WriterLaws W w) {colored : Bool} where
  pub painted_start : (a : W) → PaintedSoFar w colored a a
  painted_start a = ([], laws.none a, of_nothing colored)

  -- a text is written, of which some may be lost
  pub painted_last : {A B : Type 0} {a b c : W} {made : List ℕ} (f : Result A Failure) (r : Result B Failure) → PaintedSoFar w colored a b → IsPainted colored made → WritesMade w b c made [] f → (IsUnwritten f → IsUnwritten r) → Paints w colored a c r
  painted_last {a = a} {b = b} {c = c} {made = made} f r p m x u =
      let e : p.0 ++ made ≡ (p.0 ++ x.written) ++ x.lost = ap (λ l. p.0 ++ l) (x.split ∙ ap (λ l. x.written ++ l) (append-nil x.lost)) ∙ sym (append_assoc p.0 x.written x.lost) in
      record { written = p.0 ++ x.written; lost = x.lost; wrote = laws.more a b c p.0 x.written p.1 x.wrote; painted = subst (λ l. IsPainted colored l) e (joined p.2 m); whole = ended r x.lost u x.whole }
    where
      ended : {B : Type 0} (r : Result B Failure) (lost : List ℕ) → (IsUnwritten f → IsUnwritten r) → ((lost ≡ []) ⊎ (IsUnwritten f × (◌≡◌ {A = List ℕ} [] []))) → OnOk r (lost ≡ [])
      ended (Ok v) lost u (inl e) = e
      ended (Ok v) lost u (inr h) = absurd (u h.0)
      ended (Err z) lost u h = tt

  -- and the run goes on
  pub painted_on : {A : Type 0} {a b c : W} {made : List ℕ} (v : A) → PaintedSoFar w colored a b → IsPainted colored made → WritesMade w b c made [] (Ok v) → PaintedSoFar w colored a c
  painted_on {a = a} {b = b} {c = c} {made = made} v p m x =
      let none : x.lost ≡ [] = elim x.whole [ inl e ↦ e | inr h ↦ absurd h.0 ] in
      let e : made ≡ x.written = x.split ∙ ap (λ l. x.written ++ (l ++ [])) none ∙ append-nil x.written in
      (p.0 ++ x.written, laws.more a b c p.0 x.written p.1 x.wrote, joined p.2 (subst (λ l. IsPainted colored l) e m))
