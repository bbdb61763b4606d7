-- Names whose members are all bytes of one length.
use Rattle.std.specs.Prelude.{◌≡◌, ◌<◌, ◌≤◌, ◌-◌, ℕ, suc, List, [], ◌∷◌, ◌++◌, length, take, replicate, All, IfSome, Option}
use Rattle.borsh_walks.specs.Container.{Shape, Member, Members}
use Rattle.borsh_plan.specs.declared.named.Named.{Named}
use Rattle.borsh_values.specs.Cursor.{remaining, step_count, Fits}
use Rattle.borsh_values.specs.declared.{frames.Rest.Rest, frames.Rest.TheVariants.Copies, runs.Run.Run, runs.Passed.Passed, runs.TagLength.TagLength}

module _ (C : List ℕ → Option Shape) where
  -- each n bytes are a member of the name, and it has no others
  abbrev pub FreeSize : List ℕ → ℕ → Type 0
  FreeSize x n = (bs : List ℕ) → (Member C x bs → length bs ≡ n) × (length bs ≡ n → All (λ b. b < 256) bs → Member C x bs)

  -- and of several names, one after another
  abbrev pub FreeSizes : List (List ℕ) → ℕ → Type 0
  FreeSizes ps n = (bs : List ℕ) → (Members C ps bs → length bs ≡ n) × (length bs ≡ n → All (λ b. b < 256) bs → Members C ps bs)

  -- the bytes are members of the names, one after another, and no others of these begin what begins so
  pub record AreOnly (ps : List (List ℕ)) (own : List ℕ) : Type 0 where
    pub members : Members C ps own
    pub only : (xs ys zs : List ℕ) → Members C ps xs → xs ++ ys ≡ own ++ zs → xs ≡ own

  -- so are the first n of the bytes
  abbrev pub AreFirst : List (List ℕ) → List ℕ → ℕ → Type 0
  AreFirst ps bytes n = (n ≤ length bytes) × AreOnly ps (take n bytes)

  -- each member of the name that begins with the byte t has n bytes, and any so many are one
  abbrev pub IsTagLength : List ℕ → ℕ → ℕ → Type 0
  IsTagLength x t n = (bs : List ℕ) → All (λ b. b < 256) bs → n ≤ suc (length bs) → AreOnly (x ∷ []) (take n (t ∷ bs))

  abbrev pub IsRightLength : List ℕ → TagLength → Type 0
  IsRightLength x t = IfSome t.length (λ n. IsTagLength x t.tag n)

  -- so many values of the name, at most count, are so many of the first bytes
  abbrev pub IsRun : List ℕ → List ℕ → ℕ → Run → Type 0
  IsRun x bytes count r = (r.values ≤ count) × AreFirst (replicate r.values x) bytes r.taken

  -- members of the next names are the first bytes of those that are left, and at least one byte
  pub record IsFreeFront (ns : List Named) (r : Rest) (left : List ℕ) (p : Passed) : Type 0 where
    pub names : List (List ℕ)
    pub first : AreFirst names left p.taken
    pub parts : remaining ns r ≡ names ++ remaining ns p.rest
    pub some : 0 < p.taken
    pub fits : Fits ns p.rest
    pub steps : step_count ns p.rest ≤ step_count ns r

-- what is passed of copies of the name at a place: a run of some bytes
abbrev pub Passes : ℕ → ℕ → Run → Passed → Type 0
Passes at count r p = (0 < r.taken) × (p ≡ record { taken = r.taken; rest = Copies at (count - r.values) })
