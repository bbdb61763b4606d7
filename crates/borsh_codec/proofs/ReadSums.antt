-- Values of two variants that are read.
use Rattle.std.proofs.Common.{◌≡◌, ℕ, true, [], ◌∷◌, ◌⊎◌, refl, subst, inl, inr, arith}
use Rattle.borsh_io.specs.declared.error.ErrorKind.{ErrorKind}
use Rattle.borsh_io.specs.Stream.{ReaderState}
use Rattle.borsh_codec.specs.Codec.{Codec, Lawful}
use Rattle.borsh_codec.specs.Shapes.{never, variant}
use Rattle.borsh_codec.specs.Types.Sums.{two_variants}
use Rattle.borsh_codec.proofs.Laws.Types.{two-lawful}
use Rattle.borsh_codec.proofs.Laws.Variants.{nothing_avoids, variant_avoids}
use Rattle.borsh_codec.specs.Reading.{TakesPrefix, IsInvalidData, Decoded, NotDecoded}
use Rattle.borsh_codec.proofs.ReadParts.{reads_tag, denied_tag, reads_here, reads_there, denied_here, denied_there, denied_nowhere}

abbrev Tag : ℕ → ReaderState → ReaderState → Type 0
Tag j s t = TakesPrefix (λ x. x ≡ j ∷ []) s t

pub reads_first : {A B : Type 0} {a : Codec A} (b : Codec B) {s t u : ReaderState} {j : ℕ} {v : A} → j ≡ 0 → Tag j s t → Decoded A a t u v → Decoded (A ⊎ (B ⊎ ⊥)) (two_variants a b) s u (inl v)
reads_first b {s = s} {t = t} e p r = let q = subst (λ k. Tag k s t) e p in reads_tag q (reads_here 0 (variant 1 b never) r)

pub reads_second : {A B : Type 0} (a : Codec A) {b : Codec B} {s t u : ReaderState} {j : ℕ} {v : B} → j ≡ 1 → Tag j s t → Decoded B b t u v → Decoded (A ⊎ (B ⊎ ⊥)) (two_variants a b) s u (inr (inl v))
reads_second a {s = s} {t = t} e p r = let q = subst (λ k. Tag k s t) e p in reads_tag q (reads_there 1 0 a (reads_here 1 never r))

module _ {A B : Type 0} {a : Codec A} {b : Codec B} (la : Lawful A a) (lb : Lawful B b) where
  pub denied_first : {s t u : ReaderState} {j : ℕ} {k : ErrorKind} → j ≡ 0 → Tag j s t → NotDecoded A a t u k → NotDecoded (A ⊎ (B ⊎ ⊥)) (two_variants a b) s u k
  denied_first {s = s} {t = t} e p r =
      let q = subst (λ k. Tag k s t) e p in
      denied_tag (two-lawful la lb) refl q (denied_here 0 (variant 1 b never) (variant_avoids b never (λ f. omega arith) (nothing_avoids 0)) r)

  pub denied_second : {s t u : ReaderState} {j : ℕ} {k : ErrorKind} → j ≡ 1 → Tag j s t → NotDecoded B b t u k → NotDecoded (A ⊎ (B ⊎ ⊥)) (two_variants a b) s u k
  denied_second {s = s} {t = t} e p r =
      let q = subst (λ k. Tag k s t) e p in
      denied_tag (two-lawful la lb) refl q (denied_there 1 0 a (λ f. omega arith) (denied_here 1 never (nothing_avoids 1) r))

-- the tag is neither 0 nor 1
pub denied_third : {A B : Type 0} {a : Codec A} {b : Codec B} {s t : ReaderState} {j : ℕ} {k : ErrorKind} → Lawful A a → Lawful B b → (j ≡ 0 → ⊥) → (j ≡ 1 → ⊥) → TakesPrefix (λ x. x ≡ j ∷ []) s t → IsInvalidData true k → NotDecoded (A ⊎ (B ⊎ ⊥)) (two_variants a b) s t k
denied_third {a = a} {b = b} {t = t} {j = j} la lb e f p r = denied_tag (two-lawful la lb) refl p (denied_there j 0 a e (denied_there j 1 b f (denied_nowhere j t r)))
