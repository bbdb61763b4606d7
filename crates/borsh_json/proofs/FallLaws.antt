-- Two neighbours that don't ascend, where the writer is.
use Rattle.std.proofs.{Common.{◌≡◌, inr, ℕ, suc, zero, ◌+◌, ◌<◌, ◌≤◌, List, [], ◌∷◌, ◌++◌, length, replicate, drop, Option, Some, None, refl, sym, ◌∙◌, ap, subst, arith, append_assoc, append-nil, length-append, pos, Bool, true, false, Decides, Result, Ok, Err, IfErr, IfOk, OnOk, MatchBool, MatchOption}, Math.Seq.{drop-append_seam}}
use Rattle.borsh_walks.specs.Container.{Shape, primitive, sequence, product, choice, tag}
use Rattle.borsh_plan.specs.{Plan.{root_of}, declared.named.Named.{Named}}
use Rattle.borsh_values.specs.Nodes.{packed_size, Opens, OpensElements, AreElementsOf}
use Rattle.borsh_json.specs.{declared.definitions.Definitions.{Definitions}, declared.error.PartError.{PartError}, declared.error.PartError.TheVariants.{OutOfMemory as NoPartMemory, Refused as RefusedPart}, declared.error.Refusal.TheVariants.{Descends}, declared.kinds.Elements.{Elements as FoundElements}, declared.kinds.Kind.TheVariants.{ByteList, Numbers}, declared.kinds.Entries.{Entries as FoundEntries}, declared.kinds.KeyKind.{KeyKind}, declared.kinds.KeyKind.TheVariants.{Text as TextKeys, Number as NumberKeys}, declared.order.Ascent.{Ascent}, declared.order.Ordered.{Ordered}, declared.position.Part.{Part as FoundPart}, declared.position.Place.{Place}, declared.sources.EntryKey.{EntryKey}, declared.writing.Writing.{Writing}, Descents.{HasDescent, PrimitivesDescend}, Forms.{Form, sequence as sequence_form, primitive as primitive_form, form_of, shape_of_form, shapes}, Found.{forms_of, names_of}, NoJson.{IsOutOfOrder}, Only.{AreOnly}, Ordered.{a_value, IsAtLeast}, Frames.{IsElementFall, IsOf, IsPath, NoneFalls, first_steps}, InOrder.{Step, element as element_step}, Inside.{LeadTo}, Leaves.{IsOpenedAs}, Orders.{KeysAscend, HasKeyOrder, OrderedBy, KindHasOrder, IsNotBelow, ArePrimitives}, Places.{IsAt, AreKeysOf, IsKindOf, lengths_of}, Represents.{SaysFirst}, Table.{Lengths, Keys, byte_list, list, entries, AreKeys, HasKind, key_json}, Writes.{IsFullOrFalls, TellsAscent, names_of_rest, opened, steps_to, Nested, IsLast, IsAbove, IsMapOf, IsLastKey, IsWritingAt, NoneFallsIn}}
use Rattle.borsh_json.proofs.{FormKinds.{form_found, form_known}, NestedLaws.{IsLastPart, last_part}, KeyRanks.{keys_at_least}, PackedDescent.{packed_descent}, WritingPlaces.{TakesEntry}}

-- ---- copies
copied : (n : ℕ) (e : List ℕ) (xs : List (List ℕ)) → replicate n e ≡ xs → (xs ≡ replicate (length xs) e) × (n ≡ length xs)
copied zero e [] h = (refl, refl)
copied zero e (x ∷ xs) h = let g : [] ≡ x ∷ xs = h in cc
copied (suc n) e [] h = let g : e ∷ replicate n e ≡ [] = h in cc
copied (suc n) e (x ∷ xs) h =
    let g : e ∷ replicate n e ≡ x ∷ xs = h in
    let q : e ≡ x = cc in
    let r : replicate n e ≡ xs = cc in
    let t = copied n e xs r in
    (ap (λ y. y ∷ xs) (sym q) ∙ ap (λ l. e ∷ l) t.0, ap suc t.1)

pub parted : (n : ℕ) (e : List ℕ) (xs ys : List (List ℕ)) → replicate n e ≡ xs ++ ys → (xs ≡ replicate (length xs) e) × (ys ≡ replicate (length ys) e) × (n ≡ length xs + length ys)
parted n e [] ys h = let t = copied n e ys h in (refl, t.0, (let l = t.1 in omega (arith, l)))
parted zero e (x ∷ xs) ys h = let g : [] ≡ x ∷ (xs ++ ys) = h in cc
parted (suc n) e (x ∷ xs) ys h =
    let g : e ∷ replicate n e ≡ x ∷ (xs ++ ys) = h in
    let q : e ≡ x = cc in
    let r : replicate n e ≡ xs ++ ys = cc in
    let t = parted n e xs ys r in
    (ap (λ y. y ∷ xs) (sym q) ∙ ap (λ l. e ∷ l) t.0, t.1, (let l = t.2 in omega (arith, l)))

not_none : (xs ys : List (List ℕ)) (y : List ℕ) → xs ++ y ∷ ys ≡ [] → ⊥
not_none [] ys y e = let g : y ∷ ys ≡ [] = e in cc
not_none (x ∷ xs) ys y e = let g : x ∷ (xs ++ y ∷ ys) ≡ [] = e in cc

-- a list that has parts has them without packing
unpacked : (m : ℕ) (e : List ℕ) (k : ℕ) (cs : List ℕ) (xs ys : List (List ℕ)) (y : List ℕ) → OpensElements m e k cs (xs ++ y ∷ ys) → (cs ≡ []) × (replicate k e ≡ xs ++ y ∷ ys)
unpacked zero e k cs xs ys y o = (o.0, sym o.1)
unpacked (suc n) e k cs xs ys y o = absurd (not_none xs ys y o.2)

-- the steps to the next part
abbrev pub next_steps : (d : Definitions) (w : Writing) (p : Place) → IsWritingAt d w p → List Step
next_steps d w p a = steps_to a.state.outer ++ first_steps a.mark.1.0 (suc a.mark.1.1)

module _ (d : Definitions) (w : Writing) (p : Place) (a : IsWritingAt d w p) (z : List ℕ) (zs : List (List ℕ)) (names : names_of_rest a.state.inner ≡ z ∷ zs)
    (k : List ℕ) (found : Ordered) (order : KeysAscend (forms_of d) (names_of d) a.mark.0 k found) (i : ℕ) (starts : a.mark.1.2 ≡ Some i) where
  abbrev C : List ℕ → Option Shape
  C = shapes (forms_of d)

  abbrev e : List ℕ
  e = order.0

  l : IsLastPart (forms_of d) (root_of d.plan.now) a.mark.0 a.mark.1 (z ∷ zs) (steps_to a.state.outer) a.state.done i
  l = last_part (forms_of d) (root_of d.plan.now) i a.mark.1 starts (subst (λ (xs : List (List ℕ)). Nested (forms_of d) (root_of d.plan.now) (opened a.mark.0 a.mark.1 xs ∷ a.state.outer) a.state.done) names a.state.nested)

  its_form : l.partly.form ≡ sequence_form 4 0 4294967295 e
  its_form = let q : Some l.partly.form ≡ Some (sequence_form 4 0 4294967295 e) = sym l.partly.opened.1 ∙ order.1.0 in cc

  -- the elements that are read, and the next one
  listed : (count : ℕ) × (l.partly.own ≡ tag 4 (pos count)) × (l.partly.read ≡ replicate (length l.partly.read) e) × (l.part ∷ z ∷ zs ≡ replicate (suc (suc (length zs))) e) × (count ≡ length l.partly.read + suc (suc (length zs))) × (count ≤ 4294967295)
  listed =
      let t = l.partly in
      let o = subst (λ (f : Form). Opens C (shape_of_form f) t.own (t.read ++ l.part ∷ z ∷ zs)) its_form t.opened.2 in
      let u = unpacked (packed_size (C e)) e o.0 o.1 t.read (z ∷ zs) l.part o.5 in
      let v = parted o.0 e t.read (l.part ∷ z ∷ zs) u.1 in
      (o.0, o.4 ∙ ap (λ b. tag 4 (pos o.0) ++ b) u.0 ∙ append-nil (tag 4 (pos o.0)), v.0, v.1, v.2, o.3)

  part_is : l.part ≡ e
  part_is = let q : l.part ∷ z ∷ zs ≡ e ∷ e ∷ replicate (length zs) e = listed.3 in cc

  next_is : z ≡ e
  next_is = let q : l.part ∷ z ∷ zs ≡ e ∷ e ∷ replicate (length zs) e = listed.3 in cc

  dropped : drop i w.bytes.now ≡ l.bytes ++ w.walk.left.now
  dropped =
      let s = a.state in
      let b : w.bytes.now ≡ l.until ++ (l.bytes ++ w.walk.left.now) = s.halved.joined ∙ ap (λ b. b ++ w.walk.left.now) l.is ∙ append_assoc l.until l.bytes w.walk.left.now in
      ap (λ n. drop n w.bytes.now) l.begins ∙ ap (λ b. drop (length l.until) b) b ∙ drop-append_seam l.until (l.bytes ++ w.walk.left.now)

  element : AreOnly (forms_of d) (e ∷ []) l.bytes
  element = subst (λ y. AreOnly (forms_of d) (y ∷ []) l.bytes) part_is l.member

  -- the steps to the next one
  leads : first_steps a.mark.1.0 (suc a.mark.1.1) ≡ element_step (suc (length l.partly.read)) ∷ []
  leads =
      let t = l.partly in
      let n = suc (length t.read) in
      let many : n < length (t.read ++ l.part ∷ z ∷ zs) = (let s = length-append t.read (l.part ∷ z ∷ zs) in omega (arith, s)) in
      let g = subst (λ (f : Form). LeadTo f t.own n (first_steps l.progress.0 (suc n))) its_form (t.called n many) in
      let count : suc a.mark.1.1 ≡ suc n = (let b = t.begun in let c = l.next in omega (arith, b, c)) in
      ap (λ k. first_steps a.mark.1.0 k) count ∙ ap (λ q. first_steps q (suc n)) l.same ∙ g

  -- the next one isn't above the last
  pub falls : IsAtLeast (forms_of d) (a_value k ∷ []) (drop i w.bytes.now) w.walk.left.now → IsOutOfOrder (forms_of d) (root_of d.plan.now) w.bytes.now (next_steps d w p a)
  falls c =
      let s = a.state in
      let t = l.partly in
      let left = w.walk.left.now in
      let after = t.own ++ (t.mid ++ (l.bytes ++ left)) in
      let b : w.bytes.now ≡ t.before ++ after =
      s.halved.joined ∙ ap (λ b. b ++ left) (l.is ∙ ap (λ b. b ++ l.bytes) t.is) ∙ append_assoc (t.before ++ (t.own ++ t.mid)) l.bytes left
      ∙ append_assoc t.before (t.own ++ t.mid) (l.bytes ++ left) ∙ ap (λ b. t.before ++ b) (append_assoc t.own t.mid (l.bytes ++ left)) in
      let m : suc (suc (length t.read)) ≤ listed.0 = (let q = listed.4 in omega (arith, q)) in
      let fall : HasDescent (forms_of d) a.mark.0 after (length t.read) = record {
        e = e;
        k = k;
        count = listed.0;
        middle = t.mid;
        first = l.bytes;
        after = left;
        keys = order.1;
        bytes_are = ap (λ b. b ++ (t.mid ++ (l.bytes ++ left))) listed.1;
        fits = listed.5;
        more = m;
        elements = subst (λ xs. AreOnly (forms_of d) xs t.mid) listed.2 t.members;
        element = element;
        falls = subst (λ b. IsAtLeast (forms_of d) (a_value k ∷ []) b left) dropped c;
      } in
      (t.depth, steps_to a.state.outer, length t.read, t.before, after, a.mark.0, ap (λ l. steps_to a.state.outer ++ l) leads, b, t.here, fall)

-- ---- keys
-- an object of entries has keys of its kind
object_keys : (F : List ℕ → Option Form) (x : List ℕ) (l : Lengths) (keys : Keys) (k v : List ℕ) → HasKind F x (entries l keys k v) → AreKeys F k keys
object_keys F x l keys k v h = (form_found F (entries l keys k v) h (λ e. cc)).2.3

keys_same : (F : List ℕ → Option Form) (ns : List Named) (k : List ℕ) (f g : Form) (kind : KeyKind) (a b : Keys) → AreKeysOf F ns k f kind a → AreKeysOf F ns k g kind b → a ≡ b
keys_same F ns k f g TextKeys a b h i = h.0 ∙ sym i.0
keys_same F ns k f g (NumberKeys n) a b h i = h.0 ∙ sym i.0

is_named : (ns : List Named) (at : ℕ) (x y : List ℕ) → IsAt ns at x → IsAt ns at y → x ≡ y
is_named ns at x y h i = let q : Some x ≡ Some y = sym h ∙ i in cc

module _ (d : Definitions) (w : Writing) (p : Place) (a : IsWritingAt d w p) (es : FoundEntries) (c : ℕ) (part : FoundPart) (t : TakesEntry (forms_of d) (names_of d) es p.parts c p.last part a.state.inner)
    (s own after : List ℕ) (left : w.walk.left.now ≡ own ++ after) (says : SaysFirst (forms_of d) t.key (key_json t.keys s) own []) where
  last_falls : (key : EntryKey) → IsMapOf d w.bytes.now a.mark.0 es → IsLastKey d w.bytes.now es (Some key) a.mark.1.2 → ((o : Option (List ℕ)) → IsLast es.key_kind (Some key) o → IsAbove t.keys o s → ⊥) → IsOutOfOrder (forms_of d) (root_of d.plan.now) w.bytes.now (next_steps d w p a)
  last_falls key m h n =
      let F = forms_of d in
      let ns = names_of d in
      let k : h.1 ≡ t.key = is_named ns es.key h.1 t.key h.7 t.key_named in
      let r : m.3.0 ≡ t.key = is_named ns es.key m.3.0 t.key m.3.1 t.key_named in
      let q : m.2.0 ≡ t.key = is_named ns es.key m.2.0 t.key m.2.3 t.key_named in
      let ascends : KeysAscend F ns a.mark.0 t.key m.0 = subst (λ k. KeysAscend F ns a.mark.0 k m.0) r m.3.2 in
      let old : AreKeysOf F ns t.key (form_of es.key_definition.now) es.key_kind h.2 = subst (λ k. AreKeysOf F ns k (form_of es.key_definition.now) es.key_kind h.2) k h.8 in
      let same : h.2 ≡ t.keys = keys_same F ns t.key (form_of es.key_definition.now) (form_of es.key_definition.now) es.key_kind h.2 t.keys old t.kind in
      let mine : AreKeysOf F ns t.key (form_of es.key_definition.now) es.key_kind m.2.2 = subst (λ k. AreKeysOf F ns k (form_of es.key_definition.now) es.key_kind m.2.2) q m.2.6 in
      let all : AreKeys F t.key t.keys = subst (λ ks. AreKeys F t.key ks) (keys_same F ns t.key (form_of es.key_definition.now) (form_of es.key_definition.now) es.key_kind m.2.2 t.keys mine t.kind) (subst (λ k. AreKeys F k m.2.2) q (object_keys F a.mark.0 (lengths_of m.1) m.2.2 m.2.0 m.2.1 m.2.5)) in
      let said : SaysFirst F t.key (key_json t.keys h.3) h.4 [] = subst (λ ks. SaysFirst F t.key (key_json ks h.3) h.4 []) same (subst (λ k. SaysFirst F k (key_json h.2 h.3) h.4 []) k h.10) in
      let compare = keys_at_least F t.key ns (form_of es.key_definition.now) es.key_kind t.keys h.3 s h.4 own h.5 after all t.kind said says (n (Some h.3) (h.3, refl, h.9)) in
      let there = subst (λ b. IsAtLeast F (a_value t.key ∷ []) b (own ++ after)) (sym h.11) compare in
      falls d w p a t.pair (replicate t.count t.pair) (ap names_of_rest t.is) t.key m.0 ascends h.0 h.6 (subst (λ b. IsAtLeast F (a_value t.key ∷ []) (drop h.0 w.bytes.now) b) (sym left) there)

  -- the key isn't above the last one
  pub key_falls : (above : Bool) → ((o : Option (List ℕ)) → IsLast es.key_kind p.last o → Decides above (IsAbove t.keys o s)) → above ≡ false → IsOutOfOrder (forms_of d) (root_of d.plan.now) w.bytes.now (next_steps d w p a)
  key_falls above g e = go p.last refl
    where
      go : (last : Option EntryKey) → p.last ≡ last → IsOutOfOrder (forms_of d) (root_of d.plan.now) w.bytes.now (next_steps d w p a)
      go None l = let q : true ≡ false = sym ((g None (subst (λ (l : Option EntryKey). IsLast es.key_kind l None) (sym l) refl)).1 tt) ∙ e in cc
      go (Some key) l =
          let h = a.here.1 es t.entries.0 t.entries.1 in
          last_falls key h.0 (subst (λ (l : Option EntryKey). IsLastKey d w.bytes.now es l a.mark.1.2) l h.1) (λ o i b. (let q : true ≡ false = sym ((g o (subst (λ (l : Option EntryKey). IsLast es.key_kind l o) (sym l) i)).1 b) ∙ e in cc))

-- ---- lists that are written whole
pub positive : (n : ℕ) → 0 < n → (m : ℕ) × (n ≡ suc m)
positive zero l = absurd (omega (arith, l))
positive (suc m) l = (m, refl)

-- the elements of a list of bytes
pub byte_there : (F : List ℕ → Option Form) (x : List ℕ) (l : Lengths) (e : List ℕ) → HasKind F x (byte_list l e) → F e ≡ Some (primitive_form 1)
byte_there F x l e h = (form_found F (byte_list l e) h (λ q. cc)).2.1.1

module _ (F : List ℕ → Option Form) (ns : List Named) (x own after bytes : List ℕ) (f : Form) (parts : List (List ℕ)) (es : FoundElements) (o : IsOpenedAs F x f own parts) (elements : AreElementsOf (shape_of_form f) own bytes) where
  module _ (root : List ℕ) (steps : List Step) (depth : ℕ) where
    list_falls : (n w lo hi : ℕ) (e : List ℕ) (error : PartError) → HasKeyOrder F ns x es.order → f ≡ sequence_form w lo hi e → F e ≡ Some (primitive_form (suc n)) → es.size ≡ suc n → IsOf Descends error → IsElementFall root steps es bytes error → IsFullOrFalls root steps depth (HasDescent F x (own ++ after)) error
    list_falls n w lo hi e NoPartMemory k s p z d g = tt
    list_falls n w lo hi e (RefusedPart path r) k s p z d g =
        let h = subst (λ (order : Option Ordered). HasKeyOrder F ns x order) g.1 k in
        let v = packed_descent F ns x e h.0 own bytes parts n w lo hi g.0 h.1 (o.0 ∙ ap (λ f. Some f) s) p (subst (λ (f : Form). Opens (shapes F) (shape_of_form f) own parts) s o.1) (subst (λ (f : Form). AreElementsOf (shape_of_form f) own bytes) s elements) after
        (λ i. IsPath root (steps ++ element_step i ∷ []) path) (λ a. subst (λ n. (i : ℕ) × IsPath root (steps ++ element_step i ∷ []) path × PrimitivesDescend F e n bytes i) z (g.2 F ns e (subst (λ n. ArePrimitives F ns e g.0 n bytes) (sym z) a))) in
        inr (d, v.0, v.1, v.2)

    pub bytes_falls : (error : PartError) → IsKindOf F ns x f (ByteList es) → KindHasOrder F ns x (ByteList es) → IsOf Descends error → IsElementFall root steps es bytes error → IsFullOrFalls root steps depth (HasDescent F x (own ++ after)) error
    bytes_falls error k h d g =
        let l = lengths_of f in
        let s = form_known F (byte_list l k.0) f k.2 o.0 (λ e. cc) in
        list_falls 0 l.width l.least l.greatest k.0 error h.1 s.0 (byte_there F x l k.0 k.2) h.0 d g

    pub numbers_falls : (error : PartError) → IsKindOf F ns x f (Numbers es) → KindHasOrder F ns x (Numbers es) → IsOf Descends error → IsElementFall root steps es bytes error → IsFullOrFalls root steps depth (HasDescent F x (own ++ after)) error
    numbers_falls error k h d g =
        let l = lengths_of f in
        let s = form_known F (list l k.0.0) f k.0.2 o.0 (λ e. cc) in
        let n = positive es.size k.1 in
        list_falls n.0 l.width l.least l.greatest k.0.0 error h s (k.2 k.0.0 k.0.1 ∙ ap (λ n. Some (primitive_form n)) n.1) n.1 d g

-- elements that don't fall are those in the own bytes
elements_one : (s : Shape) (own cs bs : List ℕ) → AreElementsOf s own cs → AreElementsOf s own bs → cs ≡ bs
elements_one (primitive n) own cs bs a b = a ∙ sym b
elements_one (sequence w lo hi e) own cs bs a b = a ∙ sym b
elements_one (product ps) own cs bs a b = a ∙ sym b
elements_one (choice w vs) own cs bs a b = a ∙ sym b

pub rises_in : {A E : Type 0} (r : Result A E) (f : Form) (own bytes : List ℕ) (es : FoundElements) (P : FoundElements → Type 0) → ((fs : FoundElements) → P fs → fs ≡ es) → AreElementsOf (shape_of_form f) own bytes → OnOk r (NoneFalls es bytes) → OnOk r ((fs : FoundElements) → P fs → NoneFallsIn fs f own)
rises_in (Ok t) f own bytes es P one a h = λ fs p bs b. subst (λ (fs : FoundElements). NoneFalls fs bs) (sym (one fs p)) (subst (λ b. NoneFalls es b) (elements_one (shape_of_form f) own bytes bs a b) h)
rises_in (Err e) f own bytes es P one a h = tt

-- of an error both are known
pub both_known : {T : Type 0} {P Q R : PartError → Type 0} (r : Result T PartError) → IfErr r P → IfErr r Q → ((e : PartError) → P e → Q e → R e) → IfErr r R
both_known (Ok t) p q f = tt
both_known (Err e) p q f = f e p q

-- ---- places
-- whether the part that is begun is above the one before it
pub begun_tells : {E : Type 0} (d : Definitions) (bytes : List ℕ) (old new : Ascent) (j : ℕ) (r : Result Bool E) → new.order ≡ old.order → new.earlier ≡ old.last → new.last ≡ Some j
    → (new.earlier ≡ None → IfOk r (λ a. a ≡ true))
    → ((x : List ℕ) → OrderedBy d x new.order → (i j : ℕ) → new.earlier ≡ Some i → new.last ≡ Some j → IfOk r (λ a. MatchBool a (IsNotBelow d x (drop i bytes) (drop j bytes) → ⊥) (IsNotBelow d x (drop i bytes) (drop j bytes))))
    → IfOk r (TellsAscent d bytes (Some old) j)
begun_tells d bytes old new j (Err e) a b l first order = tt
begun_tells d bytes old new j (Ok above) a b l first order = go old.last refl
  where
    go : (last : Option ℕ) → old.last ≡ last → MatchOption last (above ≡ true) (λ i. (k : List ℕ) → OrderedBy d k old.order → MatchBool above (IsNotBelow d k (drop i bytes) (drop j bytes) → ⊥) (IsNotBelow d k (drop i bytes) (drop j bytes)))
    go None e = first (b ∙ e)
    go (Some i) e = λ k o. order k (subst (λ (q : Ordered). OrderedBy d k q) (sym a) o) i j (b ∙ e) l
