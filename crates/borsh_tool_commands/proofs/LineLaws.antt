-- Lines of a reader.
use Rattle.std.proofs.Common.{◌≡◌, ◌≢◌, ℕ, ◌+◌, ◌<◌, ◌≤◌, inl, inr, Bool, true, false, true≢false, List, [], ◌∷◌, ◌++◌, length, get_or, take, drop, Ok, refl, sym, ◌∙◌, ap, subst, arith, append_assoc, append-nil, take-append-drop, length-append, length-take}
use Rattle.std.specs.Io.KnownBytes.{Consumes, IsAtEnd}
use Rattle.std.proofs.KnownBytes.{Consumes-nil, Consumes-trans}
use Rattle.std.proofs.Math.Seq.{take-add, take-append_seam}
use Rattle.std.proofs.lemmas.List.{get_or-take, take_more, take_all, drop_all}
use Rattle.std.proofs.lemmas.List.Elements.{All-append, All-from_get_or, All-nil, All-same}
use Rattle.borsh_io.specs.Lines.{IsLine}
use Rattle.borsh_io.specs.Stream.{ReaderState}
use Rattle.borsh_io.specs.Buffered.{ReadsMore, TakesHeld, held, piece, reader_of}
use Rattle.borsh_io.specs.declared.buffered.Buffered.{Buffered}
use Rattle.borsh_tool_commands.specs.Lines.{IsFirstLine, NextLine}

empty : (xs : List ℕ) → length xs ≡ 0 → xs ≡ []
empty [] h = refl
empty (x ∷ xs) h = absurd (omega arith)

-- ---- a line in bytes

-- the first line feed stands n bytes behind the first s bytes, which have none
pub line-at : (xs : List ℕ) (s n : ℕ) → IsLine (take s xs) → n < length (drop s xs) → ((k : ℕ) → k < n → get_or (drop s xs) k 0 ≢ 10) → get_or (drop s xs) n 0 ≡ 10
    → (p left : List ℕ) → p ≡ take (s + n + 1) xs → left ≡ drop (s + n + 1) xs → (more : List ℕ) → IsFirstLine p (xs ++ more) (left ++ more)
line-at xs s n front within before at p left is rest more =
    let ys = drop s xs in
    let text = take s xs ++ take n ys in
    let bare : IsLine (take n ys) = All-from_get_or (λ b. b ≢ 10) (take n ys) 0 (λ k h e. before k (omega (arith, h, length-take n ys)) (sym (get_or-take n ys k 0 (omega (arith, h, length-take n ys))) ∙ e)) in
    let sum : s + n + 1 ≡ s + (n + 1) = omega arith in
    let line : take (s + n + 1) xs ≡ text ++ 10 ∷ [] =
    ap (λ k. take k xs) sum ∙ take-add s (n + 1) xs ∙ ap (λ l. take s xs ++ l) (take_more ys n 0 within ∙ ap (λ b. take n ys ++ b ∷ []) at) ∙ sym (append_assoc (take s xs) (take n ys) (10 ∷ [])) in
    record {
      text = text;
      whole = All-append (λ b. b ≢ 10) (take s xs) (take n ys) front bare;
      split = ap (λ l. l ++ more) (sym (take-append-drop (s + n + 1) xs)) ∙ append_assoc (take (s + n + 1) xs) (drop (s + n + 1) xs) more ∙ ap (λ l. l ++ (drop (s + n + 1) xs ++ more)) (sym is) ∙ ap (λ l. p ++ (l ++ more)) (sym rest);
      ended = inl (is ∙ line);
    }

-- there is none
pub no-feed : (xs : List ℕ) (s n : ℕ) → IsLine (take s xs) → n ≡ length (drop s xs) → ((k : ℕ) → k < n → get_or (drop s xs) k 0 ≢ 10) → IsLine xs
no-feed xs s n front all before =
    All-same (λ b. b ≢ 10) xs (take s xs ++ drop s xs) (sym (take-append-drop s xs))
    (All-append (λ b. b ≢ 10) (take s xs) (drop s xs) front (All-from_get_or (λ b. b ≢ 10) (drop s xs) 0 (λ k h. before k (omega (arith, h)))))

-- the last line has no line feed
last-line : (X p bytes left more : List ℕ) → IsLine X → 0 < length X → bytes ≡ X → p ≡ X → left ≡ [] → more ≡ [] → IsFirstLine p (bytes ++ more) (left ++ more)
last-line X p bytes left more whole some b e l m = record {
  text = X;
  whole = whole;
  split = ap (λ k. k ++ more) (b ∙ sym e) ∙ ap (λ k. p ++ (k ++ more)) (sym l);
  ended = inr (e, some, ap (λ k. k ++ more) l ∙ m);
}

-- ---- a line of a reader

module _ {R : Type 0} (state : R → ReaderState) where
  -- what was read so far, of which the first bytes have no line feed
  pub record ReadSoFar (old new : Buffered R) (searched : ℕ) : Type 0 where
    pub read : List ℕ
    pub kept : held new ≡ held old ++ read
    pub taken : Consumes (state (reader_of old)).bytes (state (reader_of new)).bytes read
    pub within : searched ≤ length (held new)
    pub none : IsLine (take searched (held new))

  pub reading-begins : (b : Buffered R) → ReadSoFar b b 0
  reading-begins b = record { read = []; kept = sym (append-nil (held b)); taken = Consumes-nil _; within = omega arith; none = All-nil (λ b. b ≢ 10) }

  -- a line was found among the bytes that are held
  pub line-found : (old now new : Buffered R) (searched : ℕ) → ReadSoFar old now searched → reader_of new ≡ reader_of now → ((more : List ℕ) → IsFirstLine (piece new) (held now ++ more) (held new ++ more)) → NextLine state old new true
  line-found old now new searched r same f = record {
    read = r.read;
    taken = subst (λ x. Consumes (state (reader_of old)).bytes (state x).bytes r.read) (sym same) r.taken;
    some = λ _ more _. subst (λ l. IsFirstLine (piece new) (l ++ more) (held new ++ more)) r.kept (f more);
    none = λ e. absurd (true≢false e);
  }

  -- no line was found, and more was read
  pub reading-on : (old now new : Buffered R) (searched s n : ℕ) → ReadSoFar old now searched → IsLine (held now) → s ≡ length (held now) → ReadsMore state now new (Ok n) → ReadSoFar old new s
  reading-on old now new searched s n r none e m = record {
    read = r.read ++ m.read;
    kept = m.held ∙ ap (λ l. l ++ m.read) r.kept ∙ append_assoc (held old) r.read m.read;
    taken = Consumes-trans _ _ _ r.read m.read r.taken m.lost.bytes;
    within = omega (arith, e, ap length m.held, length-append (held now) m.read);
    none = All-same (λ b. b ≢ 10) (take s (held new)) (held now) (ap (take s) m.held ∙ ap (λ k. take k (held now ++ m.read)) e ∙ take-append_seam (held now) m.read) none;
  }

  -- the reader is at its end, and all that is held is the last line, or there is none
  pub reading-ends : (old now read new : Buffered R) (searched s : ℕ) (found : Bool) → ReadSoFar old now searched → IsLine (held now) → s ≡ length (held now) → ReadsMore state now read (Ok 0) → TakesHeld read new s
      → (found ≡ true → 0 < s) → (found ≡ false → s ≡ 0) → NextLine state old new found
  reading-ends old now read new searched s found r none e m t if_some if_none =
      let nothing : m.read ≡ [] = empty m.read (sym m.number) in
      let same : held read ≡ held now = m.held ∙ ap (λ l. held now ++ l) nothing ∙ append-nil (held now) in
      let all : held old ++ (r.read ++ m.read) ≡ held now = sym (append_assoc (held old) r.read m.read) ∙ ap (λ l. l ++ m.read) (sym r.kept) ∙ ap (λ l. held now ++ l) nothing ∙ append-nil (held now) in
      let taken : piece new ≡ held now = t.piece ∙ ap (take s) same ∙ take_all s (held now) (omega (arith, e)) in
      let left : held new ≡ [] = t.held ∙ ap (drop s) same ∙ drop_all s (held now) (omega (arith, e)) in
      let at_end : IsAtEnd (state (reader_of new)).bytes = subst (λ x. IsAtEnd (state x).bytes) (sym t.reader) (m.some refl) in
      record {
        read = r.read ++ m.read;
        taken = subst (λ x. Consumes (state (reader_of old)).bytes (state x).bytes (r.read ++ m.read)) (sym t.reader) (Consumes-trans _ _ _ r.read m.read r.taken m.lost.bytes);
        some = λ y more is. last-line (held now) (piece new) (held old ++ (r.read ++ m.read)) (held new) more none (omega (arith, e, if_some y)) all taken left (subst IsAtEnd is at_end);
        none = λ f. (all ∙ empty (held now) (sym e ∙ if_none f), at_end);
      }
