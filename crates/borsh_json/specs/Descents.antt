-- Sets and maps, and bytes of which two neighbours don't ascend.
use Rattle.std.specs.Prelude.{◌≡◌, ◌⊎◌, ℕ, suc, ◌<◌, ◌≤◌, ◌*◌, ◌-◌, pos, List, [], ◌∷◌, ◌++◌, length, replicate, Option, Some}
use Rattle.borsh_walks.specs.Container.{tag}
use Rattle.borsh_json.specs.{Forms.{Form, tuple, IsList}, Found.{IsSetName, IsMapName}, Only.{AreOnly}, Ordered.{a_value, IsAtLeast}}

module _ (F : List ℕ → Option Form) where
  -- x is a set of elements e, which are its keys, too; or a map with entries e and keys k
  abbrev pub HasKeys : List ℕ → List ℕ → List ℕ → Type 0
  HasKeys x e k = IsList F x e × ((IsSetName x e × (k ≡ e)) ⊎ ((v : List ℕ) × (F e ≡ Some (tuple (k ∷ v ∷ []))) × IsMapName x k v))

  -- of primitives e of n bytes each, that at i isn't above the one before it
  pub record PrimitivesDescend (e : List ℕ) (n : ℕ) (bytes : List ℕ) (i : ℕ) : Type 0 where
    pub before : List ℕ
    pub first : List ℕ
    pub second : List ℕ
    pub after : List ℕ
    pub some : 0 < i
    pub passed : length before ≡ (i - 1) * n
    pub bytes_are : bytes ≡ before ++ (first ++ (second ++ after))
    pub first_is : length first ≡ n
    pub second_is : length second ≡ n
    pub falls : IsAtLeast F (a_value e ∷ []) first second

  -- the bytes begin with a value of the set or map x. It has at most as many elements as four bytes can say; behind so many of them come two more, of which the key of the second isn't above that of the first, as far as their order is told
  pub record HasDescent (x bytes : List ℕ) (passed : ℕ) : Type 0 where
    pub e : List ℕ
    pub k : List ℕ
    pub count : ℕ
    pub middle : List ℕ
    pub first : List ℕ
    pub after : List ℕ
    pub keys : HasKeys x e k
    pub bytes_are : bytes ≡ tag 4 (pos count) ++ (middle ++ (first ++ after))
    pub fits : count ≤ 4294967295
    pub more : suc (suc passed) ≤ count
    pub elements : AreOnly F (replicate passed e) middle
    pub element : AreOnly F (e ∷ []) first
    pub falls : IsAtLeast F (a_value k ∷ []) (first ++ after) after
