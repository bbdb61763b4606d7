-- The members of a name.
use Rattle.std.specs.Prelude.{◌≡◌, ℕ, List, Option}
use Rattle.borsh.specs.Schema.Container.{Shape, Member}

-- the bytes are a member, and no others are
abbrev pub HasOneMember : (List ℕ → Option Shape) → List ℕ → List ℕ → Type 0
HasOneMember C x bs = Member C x bs × ((cs : List ℕ) → Member C x cs → cs ≡ bs)

abbrev pub HasNoMember : (List ℕ → Option Shape) → List ℕ → Type 0
HasNoMember C x = (bs : List ℕ) → Member C x bs → ⊥
