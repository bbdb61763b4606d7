-- What an enum means as bytes: its variants are the leaves of a binary tree, each with a tag of its own.
use Rattle.std.specs.Prelude.{ℕ, ◌⊎◌}
use mathlib.Core.Logic.{inl, inr}
use Rattle.borsh_codec.specs.Codec.{Codec}
use Rattle.borsh_codec.specs.Shapes.{contramap, either}
use Rattle.borsh_enums.specs.declared.cases.Fork.{Fork}
use Rattle.borsh_enums.specs.declared.cases.TagOf.{TagOf}
use Rattle.borsh_enums.specs.declared.cases.Fork.TheVariants.{Left, Right}

abbrev pub fork_view : {A B : Type 0} → Fork A B → A ⊎ B
fork_view (Left v) = inl v
fork_view (Right v) = inr v

-- a value of a or a value of b, which differ in their tags
abbrev pub fork : {A B : Type 0} → Codec A → Codec B → Codec (Fork A B)
fork a b = contramap fork_view (either a b)

-- ---- values of a tree: on its left, on its right, and the fields of a variant

abbrev pub left : {A B : Type 0} → A → Fork A B
left v = Left v

abbrev pub right : {A B : Type 0} → B → Fork A B
right v = Right v

abbrev pub fields : {n : ℕ} {A : Type 0} → A → TagOf n × A
fields v = (record {}, v)
