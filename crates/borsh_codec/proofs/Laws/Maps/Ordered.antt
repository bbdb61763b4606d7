-- The laws of maps that hold their entries by ascending key.
use Rattle.std.proofs.Common.{◌≡◌, ℕ, Bool, true, ◌&&◌, cond, List, [], ◌∷◌, Some, None, refl, sym, ◌∙◌, ap, true≢false}
use Rattle.std.specs.declared.cmp.Ordering.{Ordering}
use Rattle.std.specs.declared.cmp.Ordering.TheVariants.{Less, Equal, Greater}
use Rattle.std.specs.Ordering.{is_lt}
use Rattle.std.specs.Bool.{Decides}
use Rattle.std.specs.Cmp.{IsTotalOrder, alike_right}
use Rattle.std.specs.Map.{keys_of}
use Rattle.std.specs.List.Sorted.{IsStrictlySortedBy}
use Rattle.std.specs.List.{AllByRecursion, AllZip, list_all}
use Rattle.borsh_codec.specs.Codec.{Codec, Lawful}
use Rattle.borsh_codec.specs.Shapes.{length_prefixed}
use Rattle.borsh_codec.specs.Maps.{ascends, BTreeMapDecodes, btree_entries}
use Rattle.borsh_codec.proofs.Laws.Lists.{and_true, some_if_true}
use Rattle.borsh_codec.proofs.Laws.Rows.{length_prefixed-lawful}
use Rattle.borsh_codec.proofs.Laws.Maps.Counted.{same_counted}
use Rattle.borsh_codec.proofs.Laws.Maps.Entries.{aligned}
use Rattle.borsh_codec.proofs.Laws.Maps.Sorted.{IsKeyed, zip_map, one_entry, same_values, all_read, same_as_read}

less_is : (r : Ordering) → Decides (is_lt r) (r ≡ Less)
less_is Less = (λ e. refl, λ e. refl)
less_is Equal = (λ e. absurd (cc), λ e. absurd (cc))
less_is Greater = (λ e. absurd (cc), λ e. absurd (cc))

all_below : {K : Type 0} (cmp : K → K → Ordering) (k : K) (ks : List K) → Decides (list_all (λ y. is_lt (cmp k y)) ks) (AllByRecursion (λ y. cmp k y ≡ Less) ks)
all_below cmp k [] = (λ e. tt, λ h. refl)
all_below cmp k (y ∷ ks) =
    let rest = all_below cmp k ks in (
      λ e. (let h = and_true (is_lt (cmp k y)) (list_all (λ y. is_lt (cmp k y)) ks) e in ((less_is (cmp k y)).0 h.0, rest.0 h.1)),
      λ h. ap (λ b. b && list_all (λ y. is_lt (cmp k y)) ks) ((less_is (cmp k y)).1 h.0) ∙ rest.1 h.1,
    )

pub ascends_is : {K : Type 0} (cmp : K → K → Ordering) (ks : List K) → Decides (ascends cmp ks) (IsStrictlySortedBy cmp ks)
unfolding IsStrictlySortedBy
ascends_is cmp [] = (λ e. tt, λ h. refl)
ascends_is cmp (k ∷ ks) =
    let here = all_below cmp k ks in
    let rest = ascends_is cmp ks in (
      λ e. (let h = and_true (list_all (λ y. is_lt (cmp k y)) ks) (ascends cmp ks) e in (here.0 h.0, rest.0 h.1)),
      λ h. ap (λ b. b && ascends cmp ks) (here.1 h.0) ∙ rest.1 h.1,
    )

module _ {K : Type 0} {cmp : K → K → Ordering} (o : IsTotalOrder cmp) where
  below_same : (k l : K) → cmp k l ≡ Equal → (ks ls : List K) → AllZip (λ x y. cmp x y ≡ Equal) ks ls → list_all (λ y. is_lt (cmp k y)) ks ≡ list_all (λ y. is_lt (cmp l y)) ls
  below_same k l e [] [] z = refl
  below_same k l e [] (y ∷ ls) z = absurd z
  below_same k l e (x ∷ ks) [] z = absurd z
  below_same k l e (x ∷ ks) (y ∷ ls) z =
      ap (λ r. is_lt r && list_all (λ y. is_lt (cmp k y)) ks) (o.congr k l x e ∙ alike_right o x y l z.0) ∙ ap (λ b. is_lt (cmp l y) && b) (below_same k l e ks ls z.1)

  pub ascends_same : (ks ls : List K) → AllZip (λ x y. cmp x y ≡ Equal) ks ls → ascends cmp ks ≡ ascends cmp ls
  ascends_same [] [] z = refl
  ascends_same [] (y ∷ ls) z = absurd z
  ascends_same (x ∷ ks) [] z = absurd z
  ascends_same (x ∷ ks) (y ∷ ls) z = ap (λ b. b && ascends cmp ks) (below_same x y z.0 ks ls z.1) ∙ ap (λ b. list_all (λ v. is_lt (cmp y v)) ls && b) (ascends_same ks ls z.1)

module _ {K V : Type 0} (cmp : K → K → Ordering) (S : V → V → Type 0) (item : Codec (K × V)) (laws : Lawful (K × V) item) (keyed : IsKeyed cmp S item) where
  pub keys_same : (es fs : List (K × V)) → AllZip item.equivalent es fs → AllZip (λ x y. cmp x y ≡ Equal) (keys_of es) (keys_of fs)
  keys_same [] [] z = tt
  keys_same [] (f ∷ fs) z = absurd z
  keys_same (e ∷ es) [] z = absurd z
  keys_same (e ∷ es) (f ∷ fs) z = ((keyed.split e f z.0).0, keys_same es fs z.1)

  -- where the keys ascend, so do those of the same entries
  pub ascending_same : (es fs : List (K × V)) → AllZip item.equivalent es fs → IsStrictlySortedBy cmp (keys_of es) → IsStrictlySortedBy cmp (keys_of fs)
  ascending_same es fs z s = (ascends_is cmp (keys_of fs)).0 (sym (ascends_same keyed.order (keys_of es) (keys_of fs) (keys_same es fs z)) ∙ (ascends_is cmp (keys_of es)).1 s)

  -- and the converse
  pub ascending_back : (es fs : List (K × V)) → AllZip item.equivalent es fs → IsStrictlySortedBy cmp (keys_of fs) → IsStrictlySortedBy cmp (keys_of es)
  ascending_back es fs z s = (ascends_is cmp (keys_of es)).0 (ascends_same keyed.order (keys_of es) (keys_of fs) (keys_same es fs z) ∙ (ascends_is cmp (keys_of fs)).1 s)

  -- entries that ascend are encoded as a counted list
  pub ordered_is : (es : List (K × V)) → IsStrictlySortedBy cmp (keys_of es) → (btree_entries cmp item).encoding es ≡ (length_prefixed item).encoding es
  ordered_is es s = ap (λ t. cond t ((length_prefixed item).encoding es) None) ((ascends_is cmp (keys_of es)).1 s)

  round_trip : (m : Bool) (a : List (K × V)) (x : List ℕ) → (btree_entries cmp item).encoding a ≡ Some x → BTreeMapDecodes cmp item m x a
  round_trip m a x e =
      let p = some_if_true (ascends cmp (keys_of a)) ((length_prefixed item).encoding a) x e in
      let s = (ascends_is cmp (keys_of a)).0 p.holds in
      record {
        ordered = s;
        decodes = record {
          read = a;
          entries = record { bytes = (length_prefixed-lawful laws).round_trip m a x p.is; ascending = λ _. s };
          values = λ q. sym (one_entry cmp S item laws keyed a s q);
        };
      }

  pub btree_entries-lawful : Lawful (List (K × V)) (btree_entries cmp item)
  btree_entries-lawful = record {
    equivalent_encoding = λ a b h. ap (λ t. cond t ((length_prefixed item).encoding a) None) (ascends_same keyed.order (keys_of a) (keys_of b) (keys_same a b h)) ∙ ap (λ o. cond (ascends cmp (keys_of b)) o None) ((length_prefixed-lawful laws).equivalent_encoding a b h);
    prefix_free = λ m x z a b h k. (same_counted laws m x z h.decodes.read k.decodes.read h.decodes.entries.bytes k.decodes.entries.bytes).0;
    empty = λ m x a e h. absurd (true≢false (sym e));
    non_empty = λ m a e h. (length_prefixed-lawful laws).non_empty m h.decodes.read refl h.decodes.entries.bytes;
    round_trip = round_trip;
    unambiguous = λ m x a b h k. zip_map (λ e f. (cmp e.0 f.0 ≡ Equal) × S e.1 f.1) item.equivalent (λ e f i. keyed.build e f i.0 i.1) a b
        (aligned keyed.order S a b h.ordered k.ordered (same_values cmp S item laws keyed m x a b h.decodes k.decodes));
    re_encodable = λ m x a h. (let f = all_read cmp S item laws keyed m x h.decodes.read a h.decodes.entries.bytes h.ordered h.decodes.values in (f.0, ordered_is a h.ordered ∙ f.1));
    canonical = λ x a e h. (let same = same_as_read cmp S item laws keyed true x h.decodes.read a h.decodes.entries.bytes (h.decodes.entries.ascending refl) h.ordered h.decodes.values in
        ordered_is a h.ordered ∙ (length_prefixed-lawful laws).equivalent_encoding a h.decodes.read same ∙ (length_prefixed-lawful laws).canonical x h.decodes.read e h.decodes.entries.bytes);
    refused = λ v e. absurd (true≢false (sym e));
  }
