-- What goes together goes together beside more pairs.
use Rattle.std.proofs.Common.{◌≡◌, ℕ, ◌+◌, List, [], ◌∷◌, ◌++◌, Some, sym, ◌∙◌, ap, subst, arith, inl, inr}
use Rattle.std.proofs.lemmas.Bool.{cases_lt}
use Rattle.std.specs.Prelude.{Option, ℤ, slice_get}
use Rattle.borsh_walks.specs.Container.{Shape, primitive, sequence, product, choice}
use Rattle.borsh_plan.proofs.NameLaws.{get_left}
use Rattle.borsh_plan.specs.declared.plan.Plan.{Plan}
use Rattle.borsh_plan.specs.declared.named.Named.{Named}
use Rattle.borsh_plan.specs.Plan.{names_of}
use Rattle.borsh_compare.specs.Together.{NamesGo, VariantGoes, VariantsGo, ShapesGo, DefinitionsGo, GoUntil, begins, onward, Goes, without_definition, without_members, of_one_size, by_definition, by_parts}
use Rattle.borsh_compare.specs.Walks.{Keeps, HasPair, IsPaired, PartGoes, GoAt}
use Rattle.borsh_compare.specs.declared.pairs.Pair.{Pair}
use Rattle.borsh_walks.proofs.Propositions.{same_some}

pub keeps_same : (l : List Pair) → Keeps l l
keeps_same l i p e = e

pub keeps_on : (a b c : List Pair) → Keeps a b → Keeps b c → Keeps a c
keeps_on a b c f g i p e = g i p (f i p e)

pub keeps_more : (l : List Pair) (p : Pair) → Keeps l (l ++ p ∷ [])
keeps_more l p i q e = get_left l (p ∷ []) i e

pub has_kept : (a b : List Pair) (i j : ℕ) → Keeps a b → HasPair a i j → HasPair b i j
has_kept a b i j f h = record { index = h.index; pair = h.pair; there = f h.index h.pair h.there; old = h.old; new = h.new }

pub paired_kept : (ns ms : List Named) (a b : List Pair) → Keeps a b → (x y : List ℕ) → IsPaired ns ms a x y → IsPaired ns ms b x y
paired_kept ns ms a b f x y h = record { old_place = h.old_place; new_place = h.new_place; has = has_kept a b h.old_place h.new_place f h.has; old = h.old; new = h.new }

module _ {R S : List ℕ → List ℕ → Type 0} (f : (x y : List ℕ) → R x y → S x y) where
  pub names_more : {xs ys : List (List ℕ)} → NamesGo R xs ys → NamesGo S xs ys
  names_more g = record { long = g.long; each = λ i x y a b. f x y (g.each i x y a b) }

  pub shapes_more : (c d : Shape) → ShapesGo R c d → ShapesGo S c d
  shapes_more (primitive m) (primitive n) g = g
  shapes_more (sequence w lo hi e) (sequence v l h o) g = (g.0, g.1, g.2, λ some. f e o (g.3 some))
  shapes_more (product ps) (product qs) g = names_more g
  shapes_more (choice w vs) (choice v us) g = (g.0, λ i k p low e. (let t = g.1 i k p low e in (t.0, t.1, f p t.0 t.2)))
  shapes_more c d g = absurd g

  module _ {C D : List ℕ → Option Shape} where
    pub definitions_more : {x y : List ℕ} → DefinitionsGo C D R x y → DefinitionsGo C D S x y
    definitions_more g = record { old_shape = g.old_shape; new_shape = g.new_shape; old = g.old; new = g.new; go = shapes_more g.old_shape g.new_shape g.go }

    pub goes_on_more : {xs ys us vs : List (List ℕ)} → GoUntil C D R xs ys us vs → GoUntil C D S xs ys us vs
    goes_on_more begins = begins
    goes_on_more (onward n g old new d) = onward n (goes_on_more g) old new (definitions_more d)

    pub goes_more : {x y : List ℕ} → Goes C D R x y → Goes C D S x y
    goes_more (without_definition e) = without_definition e
    goes_more (without_members e n) = without_members e n
    goes_more (of_one_size n a b) = of_one_size n a b
    goes_more (by_definition g) = by_definition (definitions_more g)
    goes_more (by_parts g) = by_parts (record { bytes = g.bytes; old_left = g.old_left; new_left = g.new_left; before = goes_on_more g.before; old = g.old; new = g.new })

pub go_at_kept : (old new : Plan) (a b : List Pair) (i j : ℕ) → Keeps a b → GoAt old new a i j → GoAt old new b i j
go_at_kept old new a b i j f g x y p q = goes_more (paired_kept (names_of old) (names_of new) a b f) (g x y p q)

pub part_kept : (old new : Plan) (a b : List Pair) (i j m n : ℕ) → Keeps a b → PartGoes old new a i j m n → PartGoes old new b i j m n
part_kept old new a b i j m n f g = record { old_name = g.old_name; new_name = g.new_name; old_there = g.old_there; new_there = g.new_there; paired = paired_kept (names_of old) (names_of new) a b f g.old_name g.new_name g.paired }

-- all variants before this one go on, and this one does
pub variants_more : (R S : List ℕ → List ℕ → Type 0) → ((x y : List ℕ) → R x y → S x y) → (n : ℕ) (vs us : List (ℤ × List ℕ)) (k : ℤ) (p : List ℕ) → VariantsGo R n vs us → slice_get vs n ≡ Some (k, p) → VariantGoes S k p us → VariantsGo S (n + 1) vs us
variants_more R S f n vs us k p g e here i j q low there = elim (cases_lt i n) [
  | inl h ↦ (let t = g i j q h there in (t.0, t.1, f q t.0 t.2))
  | inr h ↦ (
      let z : i ≡ n = omega (arith, low, h) in
      let s : (k, p) ≡ (j, q) = same_some e (ap (λ m. slice_get vs m) (sym z) ∙ there) in
      subst (λ (v : ℤ × List ℕ). VariantGoes S v.0 v.1 us) s here)
]
