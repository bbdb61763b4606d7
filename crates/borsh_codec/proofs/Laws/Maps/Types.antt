-- The laws of maps and sets over those of keys and values.
use Rattle.std.proofs.Common.{◌≡◌, Bool, List, refl, sym, ◌∙◌}
use Rattle.std.specs.Bool.{Decides, ⊤}
use Rattle.std.specs.declared.cmp.Ordering.{Ordering}
use Rattle.std.specs.declared.cmp.Ordering.TheVariants.{Less, Equal, Greater}
use Rattle.std.specs.Ordering.{is_eq}
use Rattle.std.specs.Cmp.{IsTotalOrder, IsEquivalence}
use Rattle.borsh_codec.specs.Codec.{Codec, Lawful}
use Rattle.borsh_codec.specs.Shapes.{pair}
use Rattle.borsh_codec.specs.Maps.{KeyLaw, unit_entries, key_only, btree_map, btree_set, hash_map, hash_set, index_map, index_set}
use Rattle.borsh_codec.proofs.Laws.Exact.{contramap-lawful, refused_if-lawful}
use Rattle.borsh_codec.proofs.Laws.Pairs.{pair-lawful}
use Rattle.borsh_codec.proofs.Laws.Maps.Sorted.{IsKeyed, hash_entries-lawful}
use Rattle.borsh_codec.proofs.Laws.Maps.Ordered.{btree_entries-lawful}
use Rattle.borsh_codec.proofs.Laws.Maps.Inserted.{index_entries-lawful}

-- `==` answers by the order
abbrev pub MatchesEq : {K : Type 0} → (K → K → Bool) → (K → K → Ordering) → Type 0
MatchesEq {K = K} eq cmp = (x y : K) → eq x y ≡ is_eq (cmp x y)

equal_is : (r : Ordering) → Decides (is_eq r) (r ≡ Equal)
equal_is Less = (λ e. absurd (cc), λ e. absurd (cc))
equal_is Equal = (λ e. refl, λ e. refl)
equal_is Greater = (λ e. absurd (cc), λ e. absurd (cc))

module _ {K : Type 0} {c : Codec K} (l : Lawful K c) {eq : K → K → Bool} (k : KeyLaw eq c) where
  -- an entry's key alone
  pub alone-lawful : Lawful (K × ⊤) (key_only c)
  alone-lawful = contramap-lawful (λ e. e.0) l

  module _ {cmp : K → K → Ordering} (o : IsTotalOrder cmp) (t : MatchesEq eq cmp) where
    pub keyed_pairs : {V : Type 0} (d : Codec V) → IsKeyed cmp d.equivalent (pair c d)
    keyed_pairs d = record {
      order = o;
      split = λ e f h. ((equal_is (cmp e.0 f.0)).0 (sym (t e.0 f.0) ∙ (k e.0 f.0).1 h.0), h.1);
      build = λ e f i s. ((k e.0 f.0).0 (t e.0 f.0 ∙ (equal_is (cmp e.0 f.0)).1 i), s);
    }

    pub keyed_alone : IsKeyed cmp (λ v w. ⊤) (key_only c)
    keyed_alone = record {
      order = o;
      split = λ e f h. ((equal_is (cmp e.0 f.0)).0 (sym (t e.0 f.0) ∙ (k e.0 f.0).1 h), tt);
      build = λ e f i s. (k e.0 f.0).0 (t e.0 f.0 ∙ (equal_is (cmp e.0 f.0)).1 i);
    }

    pub btree_map-lawful : {V : Type 0} {d : Codec V} → Lawful V d → Lawful (List (K × V)) (btree_map cmp c d)
    btree_map-lawful {d = d} n = refused_if-lawful c.is_zero_width (btree_entries-lawful cmp d.equivalent (pair c d) (pair-lawful l n) (keyed_pairs d))

    pub btree_set-lawful : Lawful (List K) (btree_set cmp c)
    btree_set-lawful = contramap-lawful unit_entries (refused_if-lawful c.is_zero_width (btree_entries-lawful cmp (λ v w. ⊤) (key_only c) alone-lawful keyed_alone))

    pub hash_map-lawful : {V : Type 0} {d : Codec V} → Lawful V d → Lawful (List (K × V)) (hash_map cmp c d)
    hash_map-lawful {d = d} n = refused_if-lawful c.is_zero_width (hash_entries-lawful cmp d.equivalent (pair c d) (pair-lawful l n) (keyed_pairs d))

    pub hash_set-lawful : Lawful (List K) (hash_set cmp c)
    hash_set-lawful = contramap-lawful unit_entries (refused_if-lawful c.is_zero_width (hash_entries-lawful cmp (λ v w. ⊤) (key_only c) alone-lawful keyed_alone))

  module _ (q : IsEquivalence eq) where
    pub index_map-lawful : {V : Type 0} {d : Codec V} → Lawful V d → Lawful (List (K × V)) (index_map eq c d)
    index_map-lawful {d = d} n = refused_if-lawful c.is_zero_width (index_entries-lawful eq d.equivalent (pair c d) (pair-lawful l n) (record {
      equiv = q;
      split = λ e f h. ((k e.0 f.0).1 h.0, h.1);
      build = λ e f i s. ((k e.0 f.0).0 i, s);
    }))

    pub index_set-lawful : Lawful (List K) (index_set eq c)
    index_set-lawful = contramap-lawful unit_entries (refused_if-lawful c.is_zero_width (index_entries-lawful eq (λ v w. ⊤) (key_only c) alone-lawful (record {
      equiv = q;
      split = λ e f h. ((k e.0 f.0).1 h, tt);
      build = λ e f i s. (k e.0 f.0).0 i;
    })))
