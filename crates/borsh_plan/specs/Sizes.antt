-- The sizes of names whose members are all bytes of one length, as far as definitions tell them.
use Rattle.std.specs.Prelude.{◌≡◌, ℕ, suc, zero, ◌*◌, ◌^◌, ◌<◌, Bool, true, false, cond, eqb, ltb, List, [], ◌∷◌, map, length, sum, get_or, Option, Some}
use Rattle.std.specs.Coded.{Π_prop, Coded-set, coded_ℕ}
use Rattle.borsh_walks.specs.Container.{Shape, primitive, sequence, product}
use Rattle.borsh_plan.specs.{declared.named.Named.Named, Names.name_at, Names.shape_at}

-- the number, if it has at most 64 bits; else 0
abbrev pub fitting : ℕ → ℕ
fitting n = cond (ltb n (2 ^ 64)) n 0

-- whether none of the sizes is 0
abbrev pub are_known : List ℕ → Bool
are_known [] = true
are_known (zero ∷ ns) = false
are_known (suc n ∷ ns) = are_known ns

-- the size of several parts together; 0 where that of one isn't known
abbrev pub together : List ℕ → ℕ
together ns = cond (are_known ns) (fitting (sum ns)) 0

-- the size of a primitive, a struct, a tuple or an array, by the sizes of parts; 0 where it isn't known
abbrev pub known_by : (List ℕ → ℕ) → Option Shape → ℕ
known_by P (Some (primitive n)) = n
known_by P (Some (sequence zero lo hi e)) = cond (eqb lo hi) (fitting (lo * P e)) 0
known_by P (Some (product ps)) = together (map P ps)
known_by P o = 0

-- the size of a name, by so many definitions within one another
unfoldable pub known_within : ℕ → (List ℕ → Option Shape) → List ℕ → ℕ
known_within zero C x = 0
known_within (suc k) C x = known_by (λ y. known_within k C y) (C x)

-- by eight
abbrev pub known_size : (List ℕ → Option Shape) → List ℕ → ℕ
known_size C x = known_within 8 C x

-- the sizes are those of the names of a plan
abbrev pub AreSizes : (List ℕ → ℕ) → List Named → List ℕ → Type 0
AreSizes P ns sizes = (i : ℕ) → i < length ns → get_or sizes i 0 ≡ P (name_at ns i)

-- they are those of the names, by the sizes of parts
abbrev pub AreSizesBy : (List ℕ → ℕ) → List Named → List ℕ → Type 0
AreSizesBy P ns sizes = (i : ℕ) → i < length ns → get_or sizes i 0 ≡ known_by P (shape_at ns i)

-- there is at most one proof of the former
pub AreSizes-prop : (P : List ℕ → ℕ) (ns : List Named) (sizes : List ℕ) → IsProp (AreSizes P ns sizes)
AreSizes-prop P ns sizes = Π_prop λ i. Π_prop λ _. Coded-set coded_ℕ _ _
