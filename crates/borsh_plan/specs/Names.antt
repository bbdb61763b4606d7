-- The names that a root leads to, by their places.
use Rattle.std.specs.Prelude.{◌≡◌, ◌⊎◌, ℕ, ◌+◌, ◌<◌, ◌≤◌, List, [], length, map, Option, Some, None, option_map, unwrap_or, slice_get, MatchOption, String, Vec}
use Rattle.std.specs.{Global.Global, BTreeMap.BTreeMap, BTreeMap.get_by_text, Coded.×_prop, Coded.Π_prop, Coded.le_prop, Coded.Coded-set, Coded.coded_list, Coded.coded_option, Coded.coded_ℕ}
use Rattle.borsh_walks.specs.{declared.definition.Definition.Definition, contracts.definition.Definition.the_row, Container.Shape, Container.references, Definitions.shape_of}
use Rattle.borsh_walks.proofs.Propositions.{coded_name}
use Rattle.borsh_plan.specs.declared.named.Named.{Named}

-- the name at a place, if there is one
abbrev pub name_of : List Named → ℕ → Option (List ℕ)
name_of ns i = option_map (λ n. n.name.now) (slice_get ns i)

abbrev pub name_at : List Named → ℕ → List ℕ
name_at ns i = unwrap_or (name_of ns i) []

-- the definition of a name that was looked up
abbrev pub found_definition : Option Named → Option Definition
found_definition None = None
found_definition (Some n) = option_map (λ d. d.now) n.definition

abbrev pub named_shape : Option Named → Option Shape
named_shape None = None
named_shape (Some n) = option_map (λ d. shape_of d.now) n.definition

abbrev pub shape_at : List Named → ℕ → Option Shape
shape_at ns i = named_shape (slice_get ns i)

-- the names in a definition, if there is one
abbrev pub parts_in : Option Shape → List (List ℕ)
parts_in None = []
parts_in (Some d) = references d

-- the place of a part of the definition at a place; none past all parts
abbrev pub IsPlaceOf : List Named → ℕ → ℕ → Option ℕ → Type 0
IsPlaceOf ns at index found = MatchOption found (slice_get (parts_in (shape_at ns at)) index ≡ None) (λ k. (k < length ns) × (slice_get (parts_in (shape_at ns at)) index ≡ Some (name_at ns k)))

-- ---- the table, as it is made

abbrev pub places_in : Option (Vec ℕ Global) → List ℕ
places_in None = []
places_in (Some v) = v.items

-- the places are those of the names
abbrev pub AreParts : List Named → List ℕ → List (List ℕ) → Type 0
AreParts ns is xs = map (λ i. name_of ns i) is ≡ map (λ x. Some x) xs

-- a name was added as this part of that place, or as one of these parts
abbrev pub IsAdded : List ℕ → ℕ → ℕ → Named → Type 0
IsAdded x from index n = (n.name.now ≡ x) × (n.from ≡ from) × (n.index ≡ index)

abbrev pub IsPartOf : List (List ℕ) → ℕ → Named → Type 0
IsPartOf refs from n = (n.from ≡ from) × (slice_get refs n.index ≡ Some n.name.now)

-- T is the place of each name, and each has the definition that the map has
pub record IsIndex {A : Type 0} (m : BTreeMap (String A) Definition) (ns : List Named) (T : List ℕ → Option ℕ) : Type 0 where
  pub sound : (x : List ℕ) (i : ℕ) → T x ≡ Some i → name_of ns i ≡ Some x
  pub back : (x : List ℕ) (i : ℕ) → name_of ns i ≡ Some x → T x ≡ Some i
  pub looked_up : (x : List ℕ) (i : ℕ) → name_of ns i ≡ Some x → get_by_text m x ≡ found_definition (slice_get ns i)

-- each name keeps its place, and at most so many names were added, all of them so
pub record Grows (Added : Named → Type 0) (most : ℕ) (old new : List Named) : Type 0 where
  pub kept : (i : ℕ) (n : Named) → slice_get old i ≡ Some n → slice_get new i ≡ Some n
  pub added : (i : ℕ) (n : Named) → slice_get new i ≡ Some n → (slice_get old i ≡ Some n) ⊎ Added n
  pub long : length old ≤ length new
  pub few : length new ≤ length old + most

-- each name but the first is a part of one before it
abbrev pub IsLed : List Named → ℕ → Named → Type 0
IsLed ns i n = (n.from < i) × (slice_get (parts_in (shape_at ns n.from)) n.index ≡ Some n.name.now)

-- ---- the table

-- the names that the root x0 leads to, that of the root first, each once, with their definitions and the places of the names in each
pub record IsPlanned {A : Type 0} (m : BTreeMap (String A) Definition) (x0 : List ℕ) (ns : List Named) (ps : List (Vec ℕ Global)) : Type 0 where
  pub first : name_of ns 0 ≡ Some x0
  pub once : (x : List ℕ) (i j : ℕ) → name_of ns i ≡ Some x → name_of ns j ≡ Some x → i ≡ j
  pub looked_up : (x : List ℕ) (i : ℕ) → name_of ns i ≡ Some x → get_by_text m x ≡ found_definition (slice_get ns i)
  pub parts : (i : ℕ) → AreParts ns (places_in (slice_get ps i)) (parts_in (shape_at ns i))
  pub led : (i : ℕ) (n : Named) → slice_get ns i ≡ Some n → 0 < i → IsLed ns i n

-- there is at most one proof of that
pub IsPlanned-prop : {A : Type 0} (m : BTreeMap (String A) Definition) (x0 : List ℕ) (ns : List Named) (ps : List (Vec ℕ Global)) → IsProp (IsPlanned m x0 ns ps)
IsPlanned-prop m x0 ns ps a b =
    let name_set : (o p : Option (List ℕ)) → IsProp (o ≡ p) = Coded-set (coded_option coded_name) in
    let looked_up_prop : IsProp ((x : List ℕ) (i : ℕ) → name_of ns i ≡ Some x → get_by_text m x ≡ found_definition (slice_get ns i)) = Π_prop λ x. Π_prop λ i. Π_prop λ _. Coded-set (coded_option the_row.coded) _ _ in
    let once_prop : IsProp ((x : List ℕ) (i j : ℕ) → name_of ns i ≡ Some x → name_of ns j ≡ Some x → i ≡ j) = Π_prop λ x. Π_prop λ i. Π_prop λ j. Π_prop λ _. Π_prop λ _. Coded-set coded_ℕ _ _ in
    let parts_prop : IsProp ((i : ℕ) → AreParts ns (places_in (slice_get ps i)) (parts_in (shape_at ns i))) = Π_prop λ i. Coded-set (coded_list (coded_option coded_name)) _ _ in
    let led_prop : IsProp ((i : ℕ) (n : Named) → slice_get ns i ≡ Some n → 0 < i → IsLed ns i n) = Π_prop λ i. Π_prop λ n. Π_prop λ _. Π_prop λ _. ×_prop le_prop (name_set _ _) in
    λ i. record { first = name_set _ _ a.first b.first i; once = once_prop a.once b.once i; looked_up = looked_up_prop a.looked_up b.looked_up i; parts = parts_prop a.parts b.parts i; led = led_prop a.led b.led i }
