-- The rows of a value, and what each says of its bytes.
use Rattle.std.specs.{Prelude.{◌≡◌, ◌⊎◌, ⊤, ℕ, ℤ, ◌+◌, ◌<◌, ◌==◌, List, [], ◌∷◌, ◌++◌, length, map, take, drop, false, codes, if◌then◌else◌, Option, Some, MatchOption, slice_get, IsUtf8}, Borrow.{Bor}, BTreeMap.{get_by_text}, Fmt.{decimal}}
use Rattle.borsh_walks.specs.Container.{Member, sequence as counted_sequence}
use Rattle.borsh_plan.specs.{Plan.{definitions_of, map_of, root_of}, declared.plan.Plan.{Plan}}
use Rattle.borsh_values.specs.{Nodes.{IsCountOf}, Preorder.{GivesNode, bytes_left, levels_left, plan_of, next_offset}, declared.{faults.Path.Path, preorder.Preorder.Preorder}, Tags.{IsVariantIndex}, declared.nodes.Node.{Node}}
use Rattle.json.specs.Json.{max_depth}
use Rattle.borsh_json.specs.{declared.error.JsonError.TheVariants.{Refused}, declared.error.JsonError.{JsonError}, declared.rows.Rows.{Rows}, Errors.{IsNoRowsReason}, Floats.{IsFloatText, IsNan}, Forms.{Form, primitive, sequence, choice, IsByte}, Places.{lengths_of}, Table.{any_length, Kind, no_bytes, truth, whole, float, raw, utf8, byte_list, list, row, inner, fields, optional, variants, entries, primitive_kind, IsWhole}}

-- the plan by which rows are given
abbrev pub rows_plan : Rows → Bor Plan
rows_plan r = plan_of r.nodes

-- no row is given: all bytes are left
pub record BeginsRows (l : Bor Plan) (all : List ℕ) (r : Rows) : Type 0 where
  pub plan : rows_plan r ≡ l
  pub bytes : bytes_left r.nodes ≡ all
  pub offset : next_offset r.nodes ≡ 0
  pub levels : map (λ l. l.2) (levels_left r.nodes) ≡ (root_of l.now ∷ []) ∷ []
  pub path : r.nodes.path.steps.items ≡ []

-- nodes without bytes are given
pub data GivesEmpty (old : Preorder) : Preorder → Type 0 where
  none : GivesEmpty old old
  one_more : {now new : Preorder} (n : Node) → GivesEmpty old now → GivesNode now new n → n.bytes.now ≡ [] → plan_of new ≡ plan_of now → GivesEmpty old new

-- the row has the first of the bytes that are left, and says how many come before; it is the node that comes next behind those without bytes
pub record IsNextRow (old new : Rows) (n : Node) : Type 0 where
  pub some : n.bytes.now ≡ [] → ⊥
  pub bytes : bytes_left old.nodes ≡ n.bytes.now ++ bytes_left new.nodes
  pub offset : n.offset ≡ next_offset old.nodes
  pub next : next_offset new.nodes ≡ next_offset old.nodes + length n.bytes.now
  pub defined : get_by_text (map_of (rows_plan old).now) n.name.now ≡ Some n.definition.now
  pub now : Preorder
  pub empty : GivesEmpty old.nodes now
  pub gives : GivesNode now new.nodes n

-- none is given only where no bytes are left
abbrev pub GivesRow : Rows → Rows → Option Node → Type 0
GivesRow old new found = MatchOption found (bytes_left old.nodes ≡ []) (λ n. IsNextRow old new n)

-- why there is no next row of any member of the root
abbrev pub IsNoRow : Plan → JsonError → Type 0
IsNoRow l e = (bytes : List ℕ) → Member (definitions_of l) (root_of l) bytes → IsNoRowsReason (definitions_of l) (root_of l) bytes e

-- behind nodes without bytes one comes that more than 128 values are around, and the path is its own
pub record IsDeepNode (old : Preorder) (path : Path) : Type 0 where
  pub now : Preorder
  pub new : Preorder
  pub node : Node
  pub empty : GivesEmpty old now
  pub gives : GivesNode now new node
  pub deep : max_depth < node.depth
  pub root : path.root.now ≡ root_of (plan_of old).now
  pub steps : path.steps.items ≡ new.path.steps.items

-- a refusal has the path of such a node
abbrev pub NestsTooDeep : Preorder → JsonError → Type 0
NestsTooDeep old (Refused path refusal) = IsDeepNode old path
NestsTooDeep old e = ⊤

-- `false` or `true`
abbrev pub IsTruthText : List ℕ → List ℕ → Type 0
IsTruthText own v =
    ((own ≡ 0 ∷ []) × (v ≡ codes "false"))
    ⊎ ((own ≡ 1 ∷ []) × (v ≡ codes "true"))
    ⊎ ((own ≡ 0 ∷ [] → ⊥) × (own ≡ 1 ∷ [] → ⊥) × (v ≡ codes "neither true nor false"))

-- what a primitive's bytes say: `bool`; a whole number in decimal, also 0 where the type has no 0; a float, also a NaN; nothing of others
abbrev pub IsPrimitiveText : Kind → List ℕ → List ℕ → Type 0
IsPrimitiveText no_bytes own v = ⊤
IsPrimitiveText truth own v = IsTruthText own v
IsPrimitiveText (whole n signed non_zero) own v = IsWhole n signed false v own
IsPrimitiveText (float f) own v = IsFloatText f own v ⊎ (IsNan f own × (v ≡ codes "not a number"))
IsPrimitiveText (raw n) own v = v ≡ []
IsPrimitiveText (utf8 l) own v = ⊤
IsPrimitiveText (byte_list l e) own v = ⊤
IsPrimitiveText (list l e) own v = ⊤
IsPrimitiveText (row xs) own v = ⊤
IsPrimitiveText (inner x) own v = ⊤
IsPrimitiveText (fields fs) own v = ⊤
IsPrimitiveText (optional x) own v = ⊤
IsPrimitiveText (variants w vs) own v = ⊤
IsPrimitiveText (entries l keys k w) own v = ⊤

-- `"text"`
abbrev pub IsQuoted : List ℕ → List ℕ → Type 0
IsQuoted s v = (IsUtf8 s × (v ≡ 34 ∷ (s ++ 34 ∷ []))) ⊎ ((IsUtf8 s → ⊥) × (v ≡ codes "not UTF-8"))

-- `1 element` or `2 elements`
abbrev pub counted : ℕ → List ℕ
counted k = if k == 1 then codes "1 element" else decimal k ++ codes " elements"

module _ (F : List ℕ → Option Form) where
  -- the name and the elements of the format's `String`
  abbrev pub IsTextOf : List ℕ → List ℕ → Type 0
  IsTextOf x e = (x ≡ codes "String") × IsByte F e

  -- the format's `String`
  abbrev pub IsRowText : List ℕ → Form → List ℕ → Type 0
  IsRowText x f e = IsTextOf x e × (lengths_of f ≡ any_length)

  -- what the own bytes of a part say, by its name and definition: a primitive, a text, the number of elements, or the name of a variant; nothing of others
  abbrev pub IsValueText : List ℕ → Form → List ℕ → List ℕ → Type 0
  IsValueText x (primitive n) own v = IsPrimitiveText (primitive_kind x n) own v
  IsValueText x (sequence w lo hi e) own v =
      (IsRowText x (sequence w lo hi e) e × IsQuoted (drop w own) v)
      ⊎ ((IsRowText x (sequence w lo hi e) e → ⊥) × (count : Option ℕ) × IsCountOf (counted_sequence w lo hi e) own count × MatchOption count (v ≡ []) (λ k. v ≡ counted k))
  IsValueText x (choice w vs) own v = (variant : Option ℕ) × IsVariantIndex (map (λ v. (v.0, v.2)) vs) (take w own) variant × MatchOption variant (v ≡ []) (λ i. (k : ℤ) × (p : List ℕ) × (slice_get vs i ≡ Some (k, v, p)))
  IsValueText x f own v = v ≡ []
