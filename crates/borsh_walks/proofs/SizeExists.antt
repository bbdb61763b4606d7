-- That there is a size where nothing that is needed is missing or leads back to itself.
use Rattle.std.proofs.Common.{◌≡◌, ◌≢◌, ℕ, suc, zero, ◌+◌, ◌≤◌, List, [], ◌∷◌, length, Some, None, refl, arith}
use Rattle.std.specs.Prelude.{AllPairs, Option, String}
use Rattle.std.specs.BTreeMap.{BTreeMap, get_by_text}
use Rattle.borsh_walks.specs.declared.definition.Definition.{Definition}
use Rattle.borsh_walks.specs.Container.{Shape, IsIn, first, later, size_references, MaxSize, sized, MaxSizes, no_sizes, more_sizes, size_from_parts, Reaches, stays, onward, SizeReaches, IsRecursive}
use Rattle.borsh_walks.specs.Definitions.{definitions_in}
use Rattle.borsh_walks.proofs.SizeClaims.{HasSize}
use Rattle.borsh_walks.proofs.Names.{distinct_none, distinct_more, distinct_within, key_names, found_among, shape_some}

defined : (o : Option Shape) → (o ≡ None → ⊥) → (d : Shape) × (o ≡ Some d)
defined None f = absurd (f refl)
defined (Some d) f = (d, refl)

module _ (C : List ℕ → Option Shape) where
  -- z leads to x by one or more references
  abbrev LeadsBelow : List ℕ → List ℕ → Type 0
  LeadsBelow z x = (y : List ℕ) × (d : Shape) × Reaches C size_references z y × (C y ≡ Some d) × IsIn x (size_references d)

  below_part : {x p z : List ℕ} {path : List (List ℕ)} (d : Shape) → C x ≡ Some d → IsIn p (size_references d) → ((y : List ℕ) → IsIn y path → LeadsBelow y x) → IsIn z (x ∷ path) → LeadsBelow z p
  below_part {x = x} d e a f first = (x, d, stays, e, a)
  below_part {x = x} d e a f (later b) = let l = f _ b in (x, d, onward l.1 l.2 l.3 l.4, e, a)

  sizes_of_parts : (ps : List (List ℕ)) → ((p : List ℕ) → IsIn p ps → (n : ℕ) × MaxSize C p n) → (ns : List ℕ) × MaxSizes C ps ns
  sizes_of_parts [] f = ([], no_sizes)
  sizes_of_parts (p ∷ ps) f =
      let s = f p first in
      let r = sizes_of_parts ps (λ q a. f q (later a)) in
      (s.0 ∷ r.0, more_sizes s.1 r.1)

  also_within : {x z : List ℕ} {path all : List (List ℕ)} → IsIn x all → ((y : List ℕ) → IsIn y path → IsIn y all) → IsIn z (x ∷ path) → IsIn z all
  also_within a f first = a
  also_within a f (later b) = f _ b

  module _ (root : List ℕ) (all : List (List ℕ)) (is_all : (x : List ℕ) (d : Shape) → C x ≡ Some d → IsIn x all) (missing : (x : List ℕ) → SizeReaches C root x → C x ≡ None → ⊥) (back : IsRecursive C root → ⊥) where
    -- a name that the names of the chain lead to isn't among them
    longer : {path : List (List ℕ)} {x : List ℕ} → AllPairs ◌≢◌ path → ((z : List ℕ) → IsIn z path → LeadsBelow z x) → SizeReaches C root x → AllPairs ◌≢◌ (x ∷ path)
    longer {x = x} distinct below needed = distinct_more (λ a. back (x, needed, below x a)) distinct

    -- below a chain of names that lead to x; `left` bounds the names that are not on it
    size_below_path : (left : ℕ) (path : List (List ℕ)) (x : List ℕ) → AllPairs ◌≢◌ path → ((z : List ℕ) → IsIn z path → IsIn z all) → ((z : List ℕ) → IsIn z path → LeadsBelow z x) → SizeReaches C root x → length all ≤ left + length path → (n : ℕ) × MaxSize C x n
    size_below_path zero path x distinct within below needed room =
        let d = defined (C x) (missing x needed) in
        let few = distinct_within (x ∷ path) all (longer distinct below needed) (λ z a. also_within (is_all x d.0 d.1) within a) in
        absurd (omega (arith, few, room))
    size_below_path (suc left) path x distinct within below needed room =
        let d = defined (C x) (missing x needed) in
        let here = is_all x d.0 d.1 in
        let parts = sizes_of_parts (size_references d.0) (λ p a. size_below_path left (x ∷ path) p (longer distinct below needed) (λ z b. also_within here within b) (λ z b. below_part d.0 d.1 a below b) (onward d.0 needed d.1 a) (omega (arith, room))) in
        (size_from_parts d.0 parts.0, sized d.0 d.1 parts.1)

    pub size_exists : (n : ℕ) × MaxSize C root n
    size_exists = size_below_path (length all) [] root distinct_none (λ z a. elim a [ ]) (λ z a. elim a [ ]) stays (omega arith)

-- over the finitely many definitions of a map
pub has_size : {A : Type 0} (m : BTreeMap (String A) Definition) (root : List ℕ) → HasSize (definitions_in m) root
has_size m root = λ missing back. size_exists (definitions_in m) root (key_names m.entries) (λ x d e. let s = shape_some (get_by_text m x) d e in found_among x m.entries s.0 s.1) missing back
