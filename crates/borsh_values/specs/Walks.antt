-- Values that are walked part by part.
use Rattle.std.specs.Prelude.{◌≡◌, ◌⊎◌, ⊤, ℕ, ◌+◌, ◌^◌, ◌<◌, ◌≤◌, List, [], ◌∷◌, ◌++◌, length, Option, Some, MatchOption, String}
use Rattle.std.specs.BTreeMap.{BTreeMap, get_by_text}
use Rattle.borsh_walks.specs.Container.{Shape, sequence, Members}
use Rattle.borsh_walks.specs.{declared.definition.Definition.Definition, Definitions.definitions_in, Definitions.shape_of}
use Rattle.borsh_plan.specs.Plan.{map_of, names_of, root_of}
use Rattle.borsh_plan.specs.Names.{name_of}
use Rattle.borsh_values.specs.declared.{frames.Opened.Opened, frames.Opened.TheVariants.Taken, nodes.Node.Node, walker.Walker.Walker}
use Rattle.borsh_values.specs.{Membership.IsUndecided, Nodes.Opens, Nodes.Reads, Cursor.HasOneTag, Cursor.OpensOnce}

-- of a member of the root the bytes `done` are read, these names come next, and the bytes `left` are members of them
abbrev pub IsReadTo : (List ℕ → Option Shape) → List ℕ → List ℕ → List (List ℕ) → List ℕ → Type 0
IsReadTo C root done names left = Reads C (root ∷ []) done names × Members C names left

-- the count of a sequence is the one that its definition allows, or a number of at most eight bytes
abbrev pub IsCounted : Shape → Type 0
IsCounted (sequence w lo hi e) = ((w ≡ 0) × (lo ≡ hi)) ⊎ ((w ≤ 8) × (hi < 256 ^ w))
IsCounted d = ⊤

-- so it is of a definition that takes bytes
abbrev pub CountsIfTaken : Shape → Opened → Type 0
CountsIfTaken d (Taken n r) = IsCounted d
CountsIfTaken d o = ⊤

module _ {A : Type 0} (m : BTreeMap (String A) Definition) where
  -- the node is that of the value of the name x with which the bytes begin that were left, and those behind its own bytes are left now
  pub record IsNodeOf (x : List ℕ) (old new : Walker) (n : Node) : Type 0 where
    pub name : n.name.now ≡ x
    pub definition : get_by_text m x ≡ Some n.definition.now
    pub bytes : old.left.now ≡ n.bytes.now ++ new.left.now
    pub offset : n.offset ≡ old.offset
    pub next : new.offset ≡ old.offset + length n.bytes.now
    pub parts : List (List ℕ)
    pub opens : Opens (definitions_in m) (shape_of n.definition.now) n.bytes.now parts
    pub once : OpensOnce (definitions_in m) (shape_of n.definition.now) n.bytes.now parts
    pub alone : HasOneTag (shape_of n.definition.now) n.bytes.now
    pub counted : IsCounted (shape_of n.definition.now)
    -- own bytes are taken: whichever the parts are, they come next
    pub onward : (root done : List ℕ) (ns ps : List (List ℕ)) → Opens (definitions_in m) (shape_of n.definition.now) n.bytes.now ns → IsReadTo (definitions_in m) root done (x ∷ ps) old.left.now → IsReadTo (definitions_in m) root (done ++ n.bytes.now) (ns ++ ps) new.left.now

  -- where there is no node, no member of the name begins the bytes, or its definition is ambiguous or breaks a rule of widths
  abbrev pub FindsNode : List ℕ → List ℕ → Walker → Walker → Option Node → Type 0
  FindsNode root x old new found = MatchOption found ((ps : List (List ℕ)) → Members (definitions_in m) (x ∷ ps) old.left.now → IsUndecided (definitions_in m) root x) (λ n. IsNodeOf x old new n)

-- so it is of the name at the place
abbrev pub FindsAt : ℕ → Walker → Walker → Option Node → Type 0
FindsAt at old new found = (x : List ℕ) → name_of (names_of old.plan.now) at ≡ Some x → FindsNode (map_of old.plan.now) (root_of old.plan.now) x old new found
