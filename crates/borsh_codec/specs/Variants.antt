-- The tags of an enum: its variants are the leaves of a binary tree, each with a tag of its own.
use Rattle.std.specs.Prelude.{ℕ, Bool, true, not, ◌&&◌, ◌||◌, [], nat_eq}
use Rattle.borsh_codec.specs.Codec.{Codec}

-- nothing decodes from no bytes
abbrev pub NonEmpty : {A : Type 0} → Codec A → Type 0
NonEmpty {A = A} c = (strict : Bool) (v : A) → c.decodes strict [] v → ⊥

-- ---- tags

-- the tags of the variants
pub data Tags : Type 0 where
  tag_of : ℕ → Tags
  both : Tags → Tags → Tags

-- a variant has this tag
abbrev pub has : ℕ → Tags → Bool
has t (tag_of n) = nat_eq t n
has t (both a b) = has t a || has t b

-- no tag is among both
abbrev pub apart : Tags → Tags → Bool
apart (tag_of n) b = not (has n b)
apart (both a c) b = apart a b && apart c b

-- no two variants have one tag
abbrev pub distinct : Tags → Bool
distinct (tag_of n) = true
distinct (both a b) = apart a b && (distinct a && distinct b)
