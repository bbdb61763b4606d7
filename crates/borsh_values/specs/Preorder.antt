-- Values whose nodes are given one after another.
use Rattle.std.specs.{Prelude.{◌≡◌, ⊤, ℕ, suc, ◌+◌, ◌-◌, cond, leb, List, [], ◌∷◌, ◌++◌, length, map, take, drop, slice_get, Option, Some, None, MatchOption, option_to_list}, Borrow.Bor, BTreeMap.get_by_text}
use Rattle.borsh_walks.specs.{Container.{Shape, IsZeroSize}, Definitions.shape_of, declared.definition.Definition.Definition}
use Rattle.borsh_plan.specs.{declared.plan.Plan.Plan, Names.found_definition, Names.name_of, Plan.definitions_of, Plan.map_of, Plan.names_of}
use Rattle.borsh_values.specs.{declared.{faults.PathStep.PathStep, frames.Frame.Frame, nodes.Node.Node, preorder.Preorder.Preorder, preorder.PreorderError.TheVariants.OutOfMemory, preorder.PreorderError.TheVariants.Ambiguous, preorder.PreorderError.PreorderError}, Cursor.{frames, remaining}, Membership.{IsUndecided}, Nodes.{IsStep, Opens}}

abbrev pub plan_of : Preorder → Bor Plan
plan_of p = p.cursor.plan

-- the bytes whose nodes are still to be given, and how many come before them
abbrev pub bytes_left : Preorder → List ℕ
bytes_left p = p.cursor.left.now

abbrev pub next_offset : Preorder → ℕ
next_offset p = length p.cursor.bytes.now - length p.cursor.left.now

-- a value that is read: its definition, its bytes from the first on, and the names of its parts that are still to be read
abbrev pub Level : Type 0
Level = Option Definition × List ℕ × List (List ℕ)

-- that of a frame; the one around the root has no definition
abbrev pub level_of : Plan → List ℕ → Frame → Level
level_of l bytes f = (cond (leb f.start (length bytes)) (found_definition (slice_get (names_of l) f.at)) None, drop (length bytes - f.start) bytes, remaining (names_of l) f.rest)

-- the values that are read, the innermost first
abbrev pub levels_left : Preorder → List Level
levels_left p = map (level_of p.cursor.plan.now p.cursor.bytes.now) (frames p.cursor)

-- values that have ended are left, and those without bytes are passed
pub data PassesTo (C : List ℕ → Option Shape) (old : List Level) : List Level → Type 0 where
  here : PassesTo C old old
  past_end : {d : Option Definition} {bytes : List ℕ} {ls : List Level} → PassesTo C old ((d, bytes, []) ∷ ls) → PassesTo C old ls
  passed : {d : Option Definition} {bytes x : List ℕ} {xs : List (List ℕ)} {ls : List Level} → IsZeroSize C x → PassesTo C old ((d, bytes, x ∷ xs) ∷ ls) → PassesTo C old ((d, bytes, xs) ∷ ls)

-- the node is that of the next name that isn't of zero size, and has the first of the bytes; then its parts come, if it has some
pub record GivesNode (old new : Preorder) (n : Node) : Type 0 where
  pub place : name_of (names_of (plan_of old).now) n.at ≡ Some n.name.now
  pub defined : get_by_text (map_of (plan_of old).now) n.name.now ≡ Some n.definition.now
  pub bytes : bytes_left old ≡ n.bytes.now ++ bytes_left new
  pub offset : n.offset ≡ next_offset old
  pub next : next_offset new ≡ next_offset old + length n.bytes.now
  pub some : IsZeroSize (definitions_of (plan_of old).now) n.name.now → ⊥
  -- the value whose part it is, with the parts behind it, and the values around that one
  pub around : Level
  pub outer : List Level
  pub before : PassesTo (definitions_of (plan_of old).now) (levels_left old) ((around.0, around.1, n.name.now ∷ around.2) ∷ outer)
  pub parts : List (List ℕ)
  pub opens : Opens (definitions_of (plan_of old).now) (shape_of n.definition.now) n.bytes.now parts
  pub after : PassesTo (definitions_of (plan_of old).now) ((Some n.definition.now, bytes_left old, parts) ∷ around ∷ outer) (levels_left new)
  pub depth : n.depth ≡ length outer
  pub step : Option PathStep
  pub leads : IsStep around.0 around.1 (suc (length around.2)) step
  pub path : new.path.steps.items ≡ take (n.depth - 1) old.path.steps.items ++ option_to_list step

-- none is given only where no bytes are left
abbrev pub GivesNext : Preorder → Preorder → Option Node → Type 0
GivesNext old new found = MatchOption found (bytes_left old ≡ []) (λ n. GivesNode old new n)

-- an allocation failed, or the definition of a name is ambiguous or breaks a rule of widths
abbrev pub IsNotGiven : (List ℕ → Option Shape) → List ℕ → PreorderError → Type 0
IsNotGiven C root OutOfMemory = ⊤
IsNotGiven C root (Ambiguous x) = IsUndecided C root x.now
