-- The definitions of the items to which a type leads, as they are collected.
use Rattle.std.proofs.Common.{◌≡◌, ℕ, suc, zero, ◌+◌, ◌<◌, List, [], ◌∷◌, Some, None, map, refl, ap, subst, arith, ◌⊎◌, inl, inr}
use Rattle.std.specs.Prelude.{slice_get}
use Rattle.borsh_definitions.specs.Described.{Form, DefinitionMap}
use Rattle.borsh_source.specs.Lists.{IsListed, AreListed}
use Rattle.borsh_source.specs.Views.{Stands, Used}
use Rattle.borsh_source.specs.Forms.{Entry}
use Rattle.borsh_source.specs.Meaning.{Means, Defines}
use Rattle.borsh_source.specs.Container.{Brought, IsMeaning, IsPresent, IsBrought, Leads, at_once, through, by_root, by_item}
use Rattle.borsh_source.proofs.Lists.{listed_at, index_of}
use Rattle.borsh_source.proofs.Steps.{still_noted}
use Rattle.borsh_source.specs.declared.tree.Source.{Source}
use Rattle.borsh_source.specs.declared.tree.Parameter.{Parameter}

-- what a type brings is there, and so is what so many of the items bring to which it leads
pub record Collected (S : Source) (root : ℕ) (name : List ℕ) (D : DefinitionMap) (all : List Used) (next : ℕ) : Type 0 where
  pub entries : List Entry
  pub uses : List Used
  pub means : Means S [] [] root name entries uses
  pub there : (n : List ℕ) (d : Form) → IsListed (n, d) entries → D n ≡ Some d
  pub used : AreListed uses all
  pub led : (u : Used) → IsListed u all → Leads S root u
  pub defined : (i : ℕ) (u : Used) → slice_get all i ≡ Some u → i < next → IsPresent S D all u
  pub only : (n : List ℕ) (d : Form) → D n ≡ Some d → IsBrought S root (n, d)

pub collected_first : (S : Source) (root : ℕ) (name : List ℕ) {d e : DefinitionMap} {u v : List Used} → ((n : List ℕ) → d n ≡ None) → u ≡ [] → Brought (Means S [] [] root name) d e u v → Collected S root name e v 0
collected_first S root name nothing q p = record {
  entries = p.entries;
  uses = p.uses;
  means = p.meant;
  there = p.adds.has;
  used = p.notes.has;
  led = λ x h. elim (p.notes.only x h) [ inl k ↦ absurd (subst (λ l. IsListed x l) q k) | inr k ↦ at_once p.meant k ];
  defined = λ i x h l. absurd (omega arith);
  only = λ n f h. elim (p.adds.only n f h) [ inl k ↦ (let z = nothing n in absurd (cc)) | inr k ↦ by_root p.meant k ];
}

-- an index of an element is below one without
below_none : {A : Type 0} (xs : List A) (i n : ℕ) (x : A) → slice_get xs n ≡ None → slice_get xs i ≡ Some x → i < n
below_none [] i n x e h = cc
below_none (y ∷ xs) i zero x e h = cc
below_none (y ∷ xs) zero (suc n) x e h = omega arith
below_none (y ∷ xs) (suc i) (suc n) x e h = let r = below_none xs i n x e h in omega (arith, r)

-- an element at an earlier index is there too
found_before : {A : Type 0} (xs : List A) (i n : ℕ) (x : A) → slice_get xs n ≡ Some x → i < n → (y : A) × (slice_get xs i ≡ Some y)
found_before [] i n x e h = cc
found_before (y ∷ xs) zero n x e h = (y, refl)
found_before (y ∷ xs) (suc i) zero x e h = absurd (omega arith)
found_before (y ∷ xs) (suc i) (suc n) x e h = found_before xs i n x e (omega arith)

at_or_before : (i n : ℕ) → i < n + 1 → (i < n) ⊎ (i ≡ n)
at_or_before zero zero h = inr refl
at_or_before zero (suc n) h = inl (omega arith)
at_or_before (suc i) zero h = absurd (omega arith)
at_or_before (suc i) (suc n) h = elim (at_or_before i n (omega arith)) [ inl a ↦ inl (omega (arith, a)) | inr b ↦ inr (ap suc b) ]

module _ {S : Source} {root : ℕ} {name : List ℕ} {d e : DefinitionMap} {all more : List Used} {next : ℕ} (w : Used) (c : Collected S root name d all next) (at : slice_get all next ≡ Some w) (p : Brought (Defines S w) d e all more) where
  still_defined : (u : Used) → IsPresent S d all u → IsPresent S e more u
  still_defined u k = record {
    entries = k.entries;
    uses = k.uses;
    defines = k.defines;
    there = λ n f h. p.adds.keeps n f (k.there n f h);
    used = λ x h. still_noted p.notes x (k.used x h);
  }

  defined_now : IsPresent S e more w
  defined_now = record { entries = p.entries; uses = p.uses; defines = p.meant; there = p.adds.has; used = p.notes.has }

  defined_before : (i : ℕ) (u : Used) → slice_get more i ≡ Some u → i < next → IsPresent S e more u
  defined_before i u h l =
      let y = found_before all i next w at l in
      let k = p.notes.keeps i y.0 y.1 in
      let q : y.0 ≡ u = cc in
      subst (λ z. IsPresent S e more z) q (still_defined y.0 (c.defined i y.0 y.1 l))

  defined_at : (i : ℕ) (u : Used) → slice_get more i ≡ Some u → i ≡ next → IsPresent S e more u
  defined_at i u h l =
      let k = p.notes.keeps next w at in
      let g = subst (λ j. slice_get more j ≡ Some u) l h in
      let q : w ≡ u = cc in
      subst (λ z. IsPresent S e more z) q defined_now

  pub collected_more : Collected S root name e more (next + 1)
  collected_more = record {
    entries = c.entries;
    uses = c.uses;
    means = c.means;
    there = λ n f h. p.adds.keeps n f (c.there n f h);
    used = λ x h. still_noted p.notes x (c.used x h);
    led = λ x h. elim (p.notes.only x h) [ inl k ↦ c.led x k | inr k ↦ through (c.led w (listed_at w all next at)) p.meant k ];
    defined = λ i u h l. elim (at_or_before i next l) [ inl a ↦ defined_before i u h a | inr b ↦ defined_at i u h b ];
    only = λ n f h. elim (p.adds.only n f h) [ inl k ↦ c.only n f k | inr k ↦ by_item (c.led w (listed_at w all next at)) p.meant k ];
  }

pub collected_all : {S : Source} {root : ℕ} {name : List ℕ} {d : DefinitionMap} {all : List Used} {next : ℕ} → Collected S root name d all next → slice_get all next ≡ None → IsMeaning S root name d
collected_all {all = all} {next = next} c e = record {
  entries = c.entries;
  uses = c.uses;
  means = c.means;
  there = c.there;
  all = all;
  used = c.used;
  led = c.led;
  defined = λ u h. let r = index_of u all h in c.defined r.0 u r.1 (below_none all r.0 next u e r.1);
  only = c.only;
}

-- what an element of a list is seen as
pub get_map : {A B : Type 0} (f : A → B) (xs : List A) (i : ℕ) (x : A) → slice_get xs i ≡ Some x → slice_get (map f xs) i ≡ Some (f x)
get_map f [] i x e = cc
get_map f (y ∷ xs) zero x e = ap (λ z. Some (f z)) (cc)
get_map f (y ∷ xs) (suc i) x e = get_map f xs i x e

pub get_map_none : {A B : Type 0} (f : A → B) (xs : List A) (i : ℕ) → slice_get xs i ≡ None → slice_get (map f xs) i ≡ None
get_map_none f [] i e = refl
get_map_none f (y ∷ xs) zero e = cc
get_map_none f (y ∷ xs) (suc i) e = get_map_none f xs i e

-- outside of an item there are no parameters
pub means_outside : {S : Source} {root : ℕ} {name : List ℕ} {a b : DefinitionMap} {u v : List Used} (ps : List Parameter) (gs : List Stands) → ps ≡ [] → gs ≡ [] → Brought (Means S ps gs root name) a b u v → Brought (Means S [] [] root name) a b u v
means_outside {S = S} {root = root} {name = name} {a = a} {b = b} {u = u} {v = v} ps gs p q h = subst (λ z. Brought (Means S [] z root name) a b u v) q (subst (λ z. Brought (Means S z gs root name) a b u v) p h)
