-- Bytes whose sets and maps ascend, as the writer goes through them.
use Rattle.std.proofs.Common.{◌≡◌, inl, inr, ℕ, suc, zero, List, [], ◌∷◌, ◌++◌, length, map, replicate, drop, Option, Some, None, refl, sym, ◌∙◌, ap, subst}
use Rattle.std.specs.Prelude.{IfSome, MatchOption, option_map}
use Rattle.borsh_walks.specs.Container.{sequence as sequence_shape, product, IsIn, first, later}
use Rattle.borsh_plan.specs.declared.named.Named.{Named}
use Rattle.borsh_values.specs.{Nodes.{packed_size, Opens, OpensElements}, Cursor.{HasOneTag, OpensOnce}, Walks.{IsCounted}}
use Rattle.borsh_json.specs.{declared.definitions.Definitions.{Definitions}, declared.kinds.Elements.{Elements as FoundElements}, declared.kinds.Kind.{Kind as Found}, declared.kinds.Kind.TheVariants.{Number, Bool as Truth, Text, Bytes, Float, ByteList, Numbers, List as ListKind, Map, Row as RowKind, Newtype as NewtypeKind, Object as ObjectKind, Optional, Choice, Refused}, declared.order.Ordered.{Ordered}, declared.position.Parts.{Parts}, declared.position.Parts.TheVariants.{Root}, Checked.{Due, one, ascending, NeedsNoOrder, IsOnly, AreChecked, empty, plain, collection, packed, elements_end, next_element}, Forms.{Form, primitive as primitive_form, sequence as sequence_form, tuple as tuple_form, shape_of_form, shapes, HasNoBytes}, Found.{forms_of, names_of}, Frames.{IsListKind}, Only.{IsOpened}, Ordered.{a_value, IsAtLeast}, Orders.{ArePrimitives, HasKeyOrder, KindHasOrder, KindTellsOrder, OrderedBy}, Descents.{HasKeys, PrimitivesDescend}, Places.{IsKindOf, lengths_of}, Table.{Lengths, Kind, truth, whole, float, raw, utf8, byte_list, list, optional, variants, entries, HasKind}, Writes.{HasNode, Mark, Rest, value_rest, names_of_rest, one_more, AreOwed, none_owed, names_owed, elements_owed, IsCheckedTo, NoneFallsIn}}
use Rattle.borsh_json.proofs.{FallLaws.{byte_there, positive}, FormKinds.{form_known}, FoundLaws.{list_element, zero_part}, PackedDescent.{packed_rises}, RepresentsLaws.{kind_one}}

module _ (F : List ℕ → Option Form) where
  -- ---- values
  -- a value of x is due, which has these own bytes: then its parts are, or its elements, whose keys have to ascend
  abbrev pub IsDueAs : List ℕ → List ℕ → List (List ℕ) → Option (List ℕ) → Type 0
  IsDueAs x own parts None = (ds : List Due) (after : List ℕ) → AreChecked F (map one parts ++ ds) after → AreChecked F (one x ∷ ds) (own ++ after)
  IsDueAs x own parts (Some k) = (e : List ℕ) × (n : ℕ) × (parts ≡ replicate n e) × ((ds : List Due) (after : List ℕ) → AreChecked F (ascending e k n None ∷ ds) after → AreChecked F (one x ∷ ds) (own ++ after))

  pub plain_due : (x own : List ℕ) (parts : List (List ℕ)) (k : Option (List ℕ)) → IsDueAs x own parts k → IfSome k (λ k. ⊥) → IsDueAs x own parts None
  plain_due x own parts None due h = due
  plain_due x own parts (Some k) due h = absurd h

  -- parts without bytes
  pub zeros_due : (zs : List (List ℕ)) {ds : List Due} {bs : List ℕ} → ((y : List ℕ) → IsIn y zs → HasNoBytes F y) → AreChecked F ds bs → AreChecked F (map one zs ++ ds) bs
  zeros_due [] z c = c
  zeros_due (y ∷ zs) z c = empty (z y first) (zeros_due zs (λ x i. z x (later i)) c)

  product_once : (f : Form) (ps : List (List ℕ)) → shape_of_form f ≡ product ps → OpensOnce (shapes F) (shape_of_form f) [] ps
  product_once f ps s = subst (λ d. OpensOnce (shapes F) d [] ps) (sym s) (λ b ms r t o e. (o.0, sym (ap (λ b. b ++ r) o.0) ∙ e, o.1))

  pub product_opened : {x : List ℕ} (f : Form) (ps : List (List ℕ)) → (HasNoBytes F x → ⊥) → F x ≡ Some f → shape_of_form f ≡ product ps → IsOpened F x f [] ps
  product_opened f ps full c s = (full, c, subst (λ s. Opens (shapes F) s [] ps) (sym s) (refl, refl), product_once f ps s, subst (λ s. IsCounted s) (sym s) tt, subst (λ s. HasOneTag s []) (sym s) tt)

  pub product_free : {x : List ℕ} (ps : List (List ℕ)) → shapes F x ≡ Some (product ps) → NeedsNoOrder F x
  product_free ps c kind h l e k keys = let q : Some (product ps) ≡ Some (sequence_shape 4 0 4294967295 e) = sym c ∙ ap (λ o. option_map shape_of_form o) keys.0 in cc

  not_list : (kind : Kind) → ((l : Lengths) (e : List ℕ) → kind ≡ list l e → ⊥) → ((l : Lengths) (e : List ℕ) → kind ≡ byte_list l e → ⊥) → IsListKind kind → ⊥
  not_list kind p q (l, e, inl r) = p l e r
  not_list kind p q (l, e, inr r) = q l e r

  pub kind_free : {x : List ℕ} (kind : Kind) → HasKind F x kind → ((l : Lengths) (e : List ℕ) → kind ≡ list l e → ⊥) → ((l : Lengths) (e : List ℕ) → kind ≡ byte_list l e → ⊥) → NeedsNoOrder F x
  kind_free kind h p q other g l = absurd (not_list kind p q (subst (λ k. IsListKind k) (kind_one F g h) l))

  pub same_opened : {x own : List ℕ} {parts : List (List ℕ)} (f : Form) (qs : List (List ℕ)) → (HasNoBytes F x → ⊥) → F x ≡ Some f → Opens (shapes F) (shape_of_form f) own qs → IsCounted (shape_of_form f) → IsOnly F x own parts → IsOpened F x f own qs
  same_opened {own = own} {parts = parts} f qs full c o counted only =
      let q : Some only.0 ≡ Some f = sym only.1 ∙ c in
      let g : only.0 ≡ f = cc in
      let once = subst (λ (f : Form). OpensOnce (shapes F) (shape_of_form f) own parts) g only.2 in
      (full, c, o, subst (λ l. OpensOnce (shapes F) (shape_of_form f) own l) (sym (once own qs [] [] o refl).2) once, counted, subst (λ (f : Form). HasOneTag (shape_of_form f) own) g only.3)

  pub product_due : {x : List ℕ} (f : Form) (ps : List (List ℕ)) → F x ≡ Some f → shape_of_form f ≡ product ps → (HasNoBytes F x → ⊥) → IsDueAs x [] ps None
  product_due f ps c s full ds after h = plain [] ps full (product_free ps (ap (λ o. option_map shape_of_form o) c ∙ ap (λ s. Some s) s)) (f, c, product_once f ps s, subst (λ s. HasOneTag s []) (sym s) tt) h

  pub pair_due : (e k v : List ℕ) → F e ≡ Some (tuple_form (k ∷ v ∷ [])) → (HasNoBytes F k → ⊥) → IsDueAs e [] (k ∷ v ∷ []) None
  pair_due e k v c full = product_due (tuple_form (k ∷ v ∷ [])) (k ∷ v ∷ []) c refl (λ z. full (zero_part F (ap (λ o. option_map shape_of_form o) c) z first))

  -- ---- places
  module _ (bytes : List ℕ) where
    -- keys that have to ascend are above those of the last part
    abbrev pub IsRisen : Mark → List ℕ → Type 0
    IsRisen m left = (k : List ℕ) → m.2 ≡ Some k → IfSome (option_map (λ i. drop i bytes) m.1.2) (λ earlier. IsAtLeast F (a_value k ∷ []) earlier left → ⊥)

    abbrev IsTaken : Mark → List Mark → Rest → List Rest → List ℕ → List ℕ → List ℕ → List Due → Type 0
    IsTaken m ms t rs y done left ds = (es : List Due) × AreOwed bytes ((m.0, one_more m.1 (length done), m.2) ∷ ms) (t ∷ rs) es × (AreChecked F (one y ∷ es) left → AreChecked F ds left)

    next_owed : (m : Mark) {ms : List Mark} (r t : Rest) {rs : List Rest} {ds : List Due} (y done left : List ℕ) → names_of_rest r ≡ y ∷ names_of_rest t → drop (length done) bytes ≡ left → IsRisen m left → AreOwed bytes (m ∷ ms) (r ∷ rs) ds → IsTaken m ms t rs y done left ds
    next_owed _ _ t y done left names d rises (names_owed {ds = ds} x g r a) = (map one (names_of_rest t) ++ ds, names_owed x (one_more g (length done)) t a, λ c. subst (λ l. AreChecked F (map one l ++ ds) left) (sym names) c)
    next_owed _ _ t y done left names d rises (elements_owed x g r e k zero c a) = let q : y ∷ names_of_rest t ≡ [] = sym names ∙ c in cc
    next_owed _ _ t y done left names d rises (elements_owed {ds = ds} x g r e k (suc n) c a) =
        let q : y ∷ names_of_rest t ≡ e ∷ replicate n e = sym names ∙ c in
        let h : y ≡ e = cc in
        let l : names_of_rest t ≡ replicate n e = cc in
        let before = drop (length done) bytes in (
          ascending e k n (Some before) ∷ ds,
          elements_owed x (one_more g (length done)) t e k n l a,
          λ z. next_element (rises k refl) (subst (λ b. AreChecked F (one e ∷ ascending e k n (Some b) ∷ ds) left) d (subst (λ y. AreChecked F (one y ∷ ascending e k n (Some before) ∷ ds) left) h z)),
        )

    end_owed : (m : Mark) {ms : List Mark} (r : Rest) {rs : List Rest} {ds : List Due} (left : List ℕ) → names_of_rest r ≡ [] → AreOwed bytes (m ∷ ms) (r ∷ rs) ds → (es : List Due) × AreOwed bytes ms rs es × (AreChecked F es left → AreChecked F ds left)
    end_owed _ _ left none (names_owed {ds = ds} x s r a) = (ds, a, λ c. subst (λ l. AreChecked F (map one l ++ ds) left) (sym none) c)
    end_owed _ _ left none (elements_owed {ds = ds} x s r e k zero c a) = (ds, a, λ c. elements_end c)
    end_owed _ _ left none (elements_owed x s r e k (suc n) c a) = let q : [] ≡ e ∷ replicate n e = sym none ∙ c in cc

    pub nothing_owed : {ds : List Due} → AreOwed bytes [] [] ds → ds ≡ []
    nothing_owed none_owed = refl

    module _ (root : List ℕ) where
      pub starts_checked : IsCheckedTo F root bytes [] (([], (Root, 0, None), None) ∷ []) (value_rest (root ∷ []) ∷ []) bytes
      starts_checked = record { dues = one root ∷ []; owed = names_owed [] (Root, 0, None) (value_rest (root ∷ [])) none_owed; checked = λ c. c }

      -- a part comes next
      pub next_checked : (m : Mark) {ms : List Mark} (r t : Rest) {rs : List Rest} (y done left : List ℕ) → names_of_rest r ≡ y ∷ names_of_rest t → drop (length done) bytes ≡ left → IsRisen m left → IsCheckedTo F root bytes [] (m ∷ ms) (r ∷ rs) left → IsCheckedTo F root bytes (y ∷ []) ((m.0, one_more m.1 (length done), m.2) ∷ ms) (t ∷ rs) left
      next_checked m r t y done left names d rises h =
          let n = next_owed m r t y done left names d rises h.owed in
          record { dues = n.0; owed = n.1; checked = λ c. h.checked (n.2 c) }

      -- the value of an entry, behind its key
      pub entry_checked : (m : Mark) {ms : List Mark} (r t : Rest) {rs : List Rest} (pair key value own after done left : List ℕ) → names_of_rest r ≡ pair ∷ names_of_rest t → drop (length done) bytes ≡ left → IsRisen m left → left ≡ own ++ after → IsDueAs pair [] (key ∷ value ∷ []) None → IsDueAs key own [] None → IsCheckedTo F root bytes [] (m ∷ ms) (r ∷ rs) left → IsCheckedTo F root bytes (value ∷ []) ((m.0, one_more m.1 (length done), m.2) ∷ ms) (t ∷ rs) after
      entry_checked m r t pair key value own after done left names d rises l two begins h =
          let n = next_owed m r t pair done left names d rises h.owed in
          record { dues = n.0; owed = n.1; checked = λ c. h.checked (n.2 (subst (λ b. AreChecked F (one pair ∷ n.0) b) (sym l) (two n.0 (own ++ after) (begins (one value ∷ n.0) after c)))) }

      -- a value was written whole, whose parts have no bytes
      pub leaf_checked : {ms : List Mark} {rs : List Rest} (x own after left : List ℕ) (zeros : List (List ℕ)) → left ≡ own ++ after → ((y : List ℕ) → IsIn y zeros → HasNoBytes F y) → IsDueAs x own zeros None → IsCheckedTo F root bytes (x ∷ []) ms rs left → IsCheckedTo F root bytes [] ms rs after
      leaf_checked x own after left zeros l z due h = record { dues = h.dues; owed = h.owed; checked = λ c. h.checked (subst (λ b. AreChecked F (one x ∷ h.dues) b) (sym l) (due h.dues after (zeros_due zeros z c))) }

      -- a value without bytes
      pub zero_checked : {ms : List Mark} {rs : List Rest} (x left : List ℕ) → HasNoBytes F x → IsCheckedTo F root bytes (x ∷ []) ms rs left → IsCheckedTo F root bytes [] ms rs left
      zero_checked x left z h = record { dues = h.dues; owed = h.owed; checked = λ c. h.checked (empty z c) }

      -- its parts come next
      pub front_checked : {ms : List Mark} {rs : List Rest} (x own after left : List ℕ) (r : Rest) (called : Parts) (k : Option (List ℕ)) → left ≡ own ++ after → IsDueAs x own (names_of_rest r) k → IsCheckedTo F root bytes (x ∷ []) ms rs left → IsCheckedTo F root bytes [] ((x, (called, 0, None), k) ∷ ms) (r ∷ rs) after
      front_checked x own after left r called None l due h = record { dues = map one (names_of_rest r) ++ h.dues; owed = names_owed x (called, 0, None) r h.owed; checked = λ c. h.checked (subst (λ b. AreChecked F (one x ∷ h.dues) b) (sym l) (due h.dues after c)) }
      front_checked x own after left r called (Some k) l due h = record { dues = ascending due.0 k due.1 None ∷ h.dues; owed = elements_owed x (called, 0, None) r due.0 k due.1 due.2 h.owed; checked = λ c. h.checked (subst (λ b. AreChecked F (one x ∷ h.dues) b) (sym l) (due.3 h.dues after c)) }

      -- a place has ended
      pub end_checked : (m : Mark) {ms : List Mark} (r : Rest) {rs : List Rest} (left : List ℕ) → names_of_rest r ≡ [] → IsCheckedTo F root bytes [] (m ∷ ms) (r ∷ rs) left → IsCheckedTo F root bytes [] ms rs left
      end_checked m r left none h =
          let n = end_owed m r left none h.owed in
          record { dues = n.0; owed = n.1; checked = λ c. h.checked (n.2 c) }

-- ---- what is due of a value of a kind
module _ (d : Definitions) (x : List ℕ) (f : Form) (own : List ℕ) (parts : List (List ℕ)) where
  abbrev F : List ℕ → Option Form
  F = forms_of d

  abbrev ns : List Named
  ns = names_of d

  -- in this order its elements have to ascend, or nothing has to
  abbrev pub IsDueIn : Option Ordered → Type 0
  IsDueIn o = (k : Option (List ℕ)) × IsDueAs F x own parts k × IfSome k (λ k. MatchOption o ⊥ (λ order. OrderedBy d k order))

  module _ (is : IsOpened F x f own parts) where
    abbrev only : IsOnly F x own parts
    only = (f, is.1, is.3, is.5)

    free_due : (o : Option Ordered) → NeedsNoOrder F x → IsDueIn o
    free_due o n = (None, (λ ds after c. plain own parts is.0 n only c), tt)

    other_due : (o : Option Ordered) (kind : Kind) → HasKind F x kind → ((l : Lengths) (e : List ℕ) → kind ≡ list l e → ⊥) → ((l : Lengths) (e : List ℕ) → kind ≡ byte_list l e → ⊥) → IsDueIn o
    other_due o kind h p q = free_due o (kind_free F kind h p q)

    -- numbers in the own bytes
    numbers_due : (o : Option Ordered) (es : FoundElements) (n w lo hi : ℕ) (e : List ℕ) → f ≡ sequence_form w lo hi e → F e ≡ Some (primitive_form (suc n)) → es.size ≡ suc n → HasKeyOrder F ns x es.order → (es.order ≡ None → NeedsNoOrder F x) → NoneFallsIn es f own → IsDueIn o
    numbers_due o es n w lo hi e g p z keys none falls = by es.order refl
      where
        by : (found : Option Ordered) → es.order ≡ found → IsDueIn o
        by None q = free_due o (none q)
        by (Some found) q =
            let a = subst (λ (o : Option Ordered). HasKeyOrder F ns x o) q keys in
            let bs = drop w own in
            let s = subst (λ (f : Form). NoneFallsIn es f own) g falls bs refl in
            let r = packed_rises F ns x e a.0 own bs parts n w lo hi found a.1 (is.1 ∙ ap (λ f. Some f) g) p (subst (λ (f : Form). Opens (shapes F) (shape_of_form f) own parts) g is.2) refl
            (λ h i t. s found q F ns e (subst (λ n. ArePrimitives F ns e found n bs) (sym z) h) i (subst (λ n. PrimitivesDescend F e n bs i) (sym z) t)) in
            (None, (λ ds after c. packed own n r.0 p r.1 (subst (λ l. IsOnly F x own l) r.2 only) (subst (λ l. AreChecked F (map one l ++ ds) after) r.2 c)), tt)

    -- elements that are parts
    elements_due : (found : Ordered) (e : List ℕ) → HasKind F x (list (lengths_of f) e) → packed_size (shapes F e) ≡ 0 → HasKeyOrder F ns x (Some found) → IsDueIn (Some found)
    elements_due found e h z a =
        let l = lengths_of f in
        let g = form_known F (list l e) f h is.1 (λ q. cc) in
        let c = is.1 ∙ ap (λ f. Some f) g in
        let keys = a.1.1 in
        let same : a.1.0 ≡ e = list_element F x e l.width l.least l.greatest c a.1.0 keys.0 in
        let o = subst (λ (f : Form). Opens (shapes F) (shape_of_form f) own parts) g is.2 in
        let t : OpensElements 0 e o.0 o.1 parts = subst (λ m. OpensElements m e o.0 o.1 parts) z o.5 in (
          Some a.0,
          (e, o.0, t.1, λ ds after c. collection own o.0 (subst (λ e. HasKeys F x e a.0) same keys) z (subst (λ l. IsOnly F x own l) t.1 only) c),
          a.1.2,
        )

    pub value_due : (kind : Found) (o : Option Ordered) → HasNode kind → IsKindOf F ns x f kind → KindHasOrder F ns x kind → KindTellsOrder F x kind
        → ((es : FoundElements) → kind ≡ ByteList es → NoneFallsIn es f own) → ((es : FoundElements) → kind ≡ Numbers es → NoneFallsIn es f own) → ((es : FoundElements) → kind ≡ ListKind es → o ≡ es.order) → IsDueIn o
    value_due (Number n) o has k h t b c l = other_due o (whole n.size n.is_signed n.is_non_zero) k (λ l e q. cc) (λ l e q. cc)
    value_due Truth o has k h t b c l = other_due o truth k (λ l e q. cc) (λ l e q. cc)
    value_due Text o has k h t b c l = other_due o (utf8 (lengths_of f)) k (λ l e q. cc) (λ l e q. cc)
    value_due (Bytes n) o has k h t b c l = other_due o (raw n) k (λ l e q. cc) (λ l e q. cc)
    value_due (Float n) o has k h t b c l = other_due o (float k.0) k.2 (λ l e q. cc) (λ l e q. cc)
    value_due (ByteList es) o has k h t b c l =
        let l = lengths_of f in
        let s = form_known F (byte_list l k.0) f k.2 is.1 (λ e. cc) in
        numbers_due o es 0 l.width l.least l.greatest k.0 s.0 (byte_there F x l k.0 k.2) h.0 h.1 (λ q kind g z. t q) (b es refl)
    value_due (Numbers es) o has k h t b c l =
        let l = lengths_of f in
        let n = positive es.size k.1 in
        numbers_due o es n.0 l.width l.least l.greatest k.0.0 (form_known F (list l k.0.0) f k.0.2 is.1 (λ e. cc)) (k.2 k.0.0 k.0.1 ∙ ap (λ n. Some (primitive_form n)) n.1) n.1 h (λ q kind g z. t q) (c es refl)
    value_due (ListKind es) o has k h t b c l = by o (l es refl)
      where
        by : (o : Option Ordered) → o ≡ es.order → IsDueIn o
        by None q = free_due None (λ kind g z. t (sym q))
        by (Some found) q = elements_due found k.0.0 k.0.2 (k.1 k.0.0 k.0.1) (subst (λ (o : Option Ordered). HasKeyOrder F ns x o) (sym q) h)
    value_due (Map es order) o has k h t b c l = other_due o (entries (lengths_of f) k.2 k.0 k.1) k.5 (λ l e q. cc) (λ l e q. cc)
    value_due (RowKind n) o has k h t b c l = absurd has
    value_due (NewtypeKind at) o has k h t b c l = absurd has
    value_due (ObjectKind fs) o has k h t b c l = absurd has
    value_due (Optional at) o has k h t b c l = other_due o (optional k.0) k.2 (λ l e q. cc) (λ l e q. cc)
    value_due (Choice w vs) o has k h t b c l = other_due o (variants w _) k.0 (λ l e q. cc) (λ l e q. cc)
    value_due (Refused flaw) o has k h t b c l = absurd has
