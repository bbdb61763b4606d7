-- What is read as the wider enum and isn't the refused variant is read as the narrower one.
use Rattle.std.proofs.Common.{◌≡◌, ℕ, Bool, List, ◌∷◌, true≢false}
use Rattle.std.specs.Bool.{⊤}
use Rattle.borsh.specs.Stream.{ReaderState}
use Rattle.borsh_io.specs.declared.error.ErrorKind.{ErrorKind}
use Rattle.borsh.specs.Reading.{IsInvalidData, DecodedAfterTag, NotDecodedAfterTag}
use Rattle.borsh.proofs.ReadSteps.{took_weaker, took_nothing, refused_map, refused_here}
use Rattle.borsh_samples.specs.declared.my_enum.MyEnum.{MyEnum}
use Rattle.borsh_samples.specs.declared.my_enum.MyEnum.TheVariants.{Zero, One, Many}
use Rattle.borsh_samples.specs.declared.one_or_zero.OneOrZero.{OneOrZero}
use Rattle.borsh_samples.specs.MyEnum.{my_enum}
use Rattle.borsh_samples.specs.OneOrZero.{one_or_zero}

narrower : (m : Bool) (tag : ℕ) (x : List ℕ) (v : MyEnum) → (tag ≡ 2 → ⊥) → my_enum.decodes m (tag ∷ x) v → one_or_zero.decodes m (tag ∷ x) (record { 0 = v })
narrower m tag x Zero other p = p
narrower m tag x (One n) other p = p
narrower m tag x (Many v) other p = absurd (other (let e = p.whole in cc))

narrower_made : (v : MyEnum) → my_enum.made v → one_or_zero.made (record { 0 = v })
narrower_made Zero p = p
narrower_made (One n) p = p
narrower_made (Many v) p = p

wider : (m : Bool) (x : List ℕ) (v : MyEnum) → one_or_zero.decodes m x (record { 0 = v }) → my_enum.decodes m x v
wider m x Zero p = p
wider m x (One n) p = p
wider m x (Many v) p = record { part = p.part; whole = p.whole; holds = p.holds.decodes }

none_many : (m : Bool) (x : List ℕ) (v : MyEnum) → one_or_zero.decodes m (2 ∷ x) (record { 0 = v }) → ⊥
none_many m x Zero p = let e = p.whole in absurd (cc)
none_many m x (One n) p = let e = p.whole in absurd (cc)
none_many m x (Many v) p = true≢false p.holds.allowed

pub reads_narrow : {tag : ℕ} {s t : ReaderState} {v : MyEnum} → (tag ≡ 2 → ⊥) → DecodedAfterTag tag MyEnum my_enum s t v → DecodedAfterTag tag OneOrZero one_or_zero s t (record { 0 = v })
reads_narrow {tag = tag} {s = s} {v = v} other r = record { took = took_weaker (λ x p. narrower s.strict_order tag x v other p) r.took; made = narrower_made v r.made }

pub denied_narrow : {tag : ℕ} {s t : ReaderState} {k : ErrorKind} → NotDecodedAfterTag tag MyEnum my_enum s t k → NotDecodedAfterTag tag OneOrZero one_or_zero s t k
denied_narrow {tag = tag} {s = s} r = record { refused = refused_map (λ e. e) (λ e. e) (λ o none front rest e p. none front rest e (p.0.0, wider s.strict_order (tag ∷ front) p.0.0 p.1)) r.refused }

pub denied_many : {tag : ℕ} (s : ReaderState) {k : ErrorKind} → tag ≡ 2 → IsInvalidData one_or_zero.texts_allocate k → NotDecodedAfterTag tag OneOrZero one_or_zero s s k
denied_many s e r = rw e (record { refused = refused_here {P = λ _. ⊤} r (took_nothing s tt) (λ front rest f p. none_many s.strict_order front p.0.0 p.1) })
