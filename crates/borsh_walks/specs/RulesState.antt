-- What the walk over the reached names keeps.
use Rattle.std.specs.Prelude.{◌≡◌, ◌≢◌, AllPairs, ℕ, ◌+◌, ◌≤◌, ◌↔◌, ◌⊎◌, ◌++◌, List, [], ◌∷◌, length, drop, Option, Some, None, String, Bool, Result, OnOk, Ok, Err, ⊤}
use Rattle.std.specs.Borrow.{Bor}
use Rattle.std.specs.BTreeMap.{BTreeMap, btree_map_len}
use Rattle.borsh_walks.specs.Container.{Shape, IsIn, IsDefined, Rule, Breaks, Reached, references}
use Rattle.borsh_walks.specs.Definitions.{definitions_in, spot_shape}
use Rattle.borsh_walks.specs.Counts.{counts_of, definition_at, definitions_of, add_to}
use Rattle.borsh_walks.specs.ZeroAnswer.{ZeroTable}
use Rattle.borsh_walks.specs.Tables.{mark_of, IsMarked, Visited}
use Rattle.borsh_walks.specs.Places.{mark_by, filled}
use Rattle.borsh_walks.specs.RulesAnswer.{RulesFault, ZeroSizeReaches, checked_element}
use Rattle.borsh_walks.specs.declared.counted.Counted.{Counted}
use Rattle.borsh_walks.specs.declared.counted.Expansions.{Expansions}
use Rattle.borsh_walks.specs.declared.counted.Question.TheVariants.{Zero, Rules}
use Rattle.borsh_walks.specs.declared.definition.Definition.{Definition}
use Rattle.borsh_walks.specs.declared.rules.Seen.{Seen}
use Rattle.borsh_walks.specs.declared.stack.Spot.{Spot}
use Rattle.borsh_walks.specs.declared.error.SchemaContainerValidateError.{SchemaContainerValidateError}

-- the references that wait on the stack, the top first
abbrev pub pending : List Spot → List (List ℕ)
pending [] = []
pending (f ∷ fs) = drop f.next (references (spot_shape f)) ++ pending fs

module _ (C : List ℕ → Option Shape) (root : List ℕ) where
  abbrev pub AllSpots : List Spot → Type 0
  AllSpots [] = ⊤
  AllSpots (f ∷ fs) = ((C f.name.now ≡ Some (spot_shape f)) × Reached C root f.name.now × (f.next ≤ length (references (spot_shape f)))) × AllSpots fs

  -- the names seen, `count` of them, are reached and keep their rules, and what they refer to is seen, waits on the stack, or is among `extra`
  pub record RulesState {M : Type 0} (extra : List (List ℕ)) (seen : List ℕ → Option M) (count : ℕ) (stack : List Spot) (zeros : BTreeMap (Bor (List ℕ)) Bool) : Type 0 where
    pub names : List (List ℕ)
    pub marks : Visited (λ x. Reached C root x × ((r : Rule) → Breaks C r x → ⊥) × IsDefined C x) seen names
    pub len : count ≡ length names
    pub spots : AllSpots stack
    pub closed : (x : List ℕ) (d : Shape) (y : List ℕ) → IsIn x names → C x ≡ Some d → IsIn y (references d) → IsIn y names ⊎ IsIn y extra ⊎ IsIn y (pending stack)
    pub zero : ZeroTable C zeros
    pub zeros_reached : (x : List ℕ) → IsMarked zeros x → ZeroSizeReaches C root x
    pub elements : (x : List ℕ) (d : Shape) (e : List ℕ) → IsIn x names → C x ≡ Some d → checked_element d ≡ Some e → (C e ≡ None → ⊥) → mark_of zeros e ≡ None → ⊥

-- the same, where each name of the map has its mark in a list
abbrev pub WalkState : {A : Type 0} → BTreeMap (String A) Definition → List ℕ → List (List ℕ) → List (Option Seen) → List Spot → BTreeMap (Bor (List ℕ)) Bool → Type 0
WalkState m root extra seen stack zeros = RulesState (definitions_in m) root extra (mark_by m.entries seen) (filled seen) stack zeros

-- the name has a mark
abbrev pub IsSeen : {A : Type 0} → BTreeMap (String A) Definition → List (Option Seen) → List ℕ → Type 0
IsSeen m seen x = mark_by m.entries seen x ≡ None → ⊥

-- `rules` and `zero` have counted j and k names
abbrev pub IsBothCount : Counted → ℕ → ℕ → Expansions → Type 0
IsBothCount c j k base = counts_of c ≡ add_to Rules j (add_to Zero k base)

module _ (C : List ℕ → Option Shape) (root : List ℕ) where
  -- names in a list, each there once, reached from the root and defined
  abbrev pub AreReached : List (List ℕ) → Type 0
  AreReached xs = AllPairs ◌≢◌ xs × ((x : List ℕ) → IsIn x xs → Reached C root x × IsDefined C x)

  -- names in a list, each there once and defined, that matter for the zero size of an element that a reached name checks
  abbrev pub AreZeroSizeReached : List (List ℕ) → Type 0
  AreZeroSizeReached xs = AllPairs ◌≢◌ xs × ((x : List ℕ) → IsIn x xs → ZeroSizeReaches C root x × IsDefined C x)

  -- `rules` rose by the number of reached names, and `zero` by at least the number of elements that are checked
  abbrev pub JudgedCounts : Expansions → Expansions → Type 0
  JudgedCounts old new = (xs : List (List ℕ)) × (zs : List (List ℕ)) × AllPairs ◌≢◌ xs × AllPairs ◌≢◌ zs × ((x : List ℕ) → IsIn x xs ↔ Reached C root x)
      × ((x : List ℕ) (d : Shape) (e : List ℕ) → Reached C root x → C x ≡ Some d → checked_element d ≡ Some e → IsIn e zs)
      × (new ≡ add_to Rules (length xs) (add_to Zero (length zs) old))

abbrev pub RulesCounted : {E : Type 0} → List ℕ → Counted → Counted → List (Option Seen) → List (Option Seen) → BTreeMap (Bor (List ℕ)) Bool → BTreeMap (Bor (List ℕ)) Bool → Result (Unit {0}) E → Type 0
RulesCounted root old new s t u v r = (base : Expansions) → IsBothCount old (filled s) (btree_map_len u) base → (xs : List (List ℕ)) × (zs : List (List ℕ)) × AreReached (definitions_of old) root xs × AreZeroSizeReached (definitions_of old) root zs × IsBothCount new (length xs) (length zs) base × OnOk r ((length xs ≡ filled t) × (length zs ≡ btree_map_len v))

-- the name is seen from now on, and what was seen still is
abbrev pub HasSeen : {A : Type 0} → BTreeMap (String A) Definition → List ℕ → List (Option Seen) → List (Option Seen) → Type 0
HasSeen m name s t = ((x : List ℕ) → IsSeen m s x → IsSeen m t x) × IsSeen m t name × (filled t ≡ filled s + 1)

-- the name was put on the stack
abbrev pub HasPushed : Counted → List Spot → List Spot → List ℕ → Type 0
HasPushed c old new name = (f : Spot) × (new ≡ f ∷ old) × (f.next ≡ 0) × (definition_at c name ≡ Some f.definition.now)

-- what a visit makes of the state
abbrev pub IsVisited : Counted → List ℕ → List (Option Seen) → List (Option Seen) → List Spot → List Spot → BTreeMap (Bor (List ℕ)) Bool → List ℕ → Result (Unit {0}) SchemaContainerValidateError → Type 0
IsVisited old name s t stack stack_after v root (Ok _) = WalkState old.map.now root [] t stack_after v × HasSeen old.map.now name s t × HasPushed old stack stack_after name
IsVisited old name s t stack stack_after v root (Err e) = RulesFault (definitions_of old) root e

-- the name is visited for the first time: what the visit makes of the state, for every root that reaches the name
abbrev pub Visits : Counted → List ℕ → List (Option Seen) → List (Option Seen) → List Spot → List Spot → BTreeMap (Bor (List ℕ)) Bool → BTreeMap (Bor (List ℕ)) Bool → Result (Unit {0}) SchemaContainerValidateError → Type 0
Visits old name s t stack stack_after u v r =
    (root : List ℕ) → WalkState old.map.now root (name ∷ []) s stack u → Reached (definitions_of old) root name → mark_by old.map.now.entries s name ≡ None → IsVisited old name s t stack stack_after v root r

-- and what it counts
abbrev pub CountsVisit : Counted → Counted → List ℕ → List (Option Seen) → List (Option Seen) → List Spot → BTreeMap (Bor (List ℕ)) Bool → BTreeMap (Bor (List ℕ)) Bool → Result (Unit {0}) SchemaContainerValidateError → Type 0
CountsVisit old new name s t stack u v r =
    (root : List ℕ) → WalkState old.map.now root (name ∷ []) s stack u → Reached (definitions_of old) root name → mark_by old.map.now.entries s name ≡ None → RulesCounted root old new s t u v r

-- a name that was seen is not visited again
pub record StaysSeen (old new : Counted) (s t : List (Option Seen)) (stack stack_after : List Spot) (u v : BTreeMap (Bor (List ℕ)) Bool) (r : Result (Unit {0}) SchemaContainerValidateError) : Type 0 where
  pub seen : t ≡ s
  pub waiting : stack_after ≡ stack
  pub zeros : v ≡ u
  pub counts : counts_of new ≡ counts_of old
  pub ok : r ≡ Ok tt

abbrev pub StaysIfSeen : Counted → Counted → List ℕ → List (Option Seen) → List (Option Seen) → List Spot → List Spot → BTreeMap (Bor (List ℕ)) Bool → BTreeMap (Bor (List ℕ)) Bool → Result (Unit {0}) SchemaContainerValidateError → Type 0
StaysIfSeen old new name s t stack stack_after u v r = IsSeen old.map.now s name → StaysSeen old new s t stack stack_after u v r

-- `rules` rose by the number of `names` and `zero` by that of `zeros`, neither by more than `most`
pub record RulesWork (C : List ℕ → Option Shape) (root : List ℕ) (most : ℕ) (old new : Expansions) : Type 0 where
  pub names : List (List ℕ)
  pub zeros : List (List ℕ)
  pub reached : AreReached C root names
  pub zeros_reached : AreZeroSizeReached C root zeros
  pub few : length names ≤ most
  pub few_zeros : length zeros ≤ most
  pub counts : new ≡ add_to Rules (length names) (add_to Zero (length zeros) old)
