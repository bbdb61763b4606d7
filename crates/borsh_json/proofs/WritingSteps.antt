-- Where the writer is after each step.
use Rattle.std.specs.Prelude.{option_map}
use Rattle.std.proofs.{Common.{◌≡◌, inl, inr, ℕ, suc, ◌+◌, ◌-◌, ◌<◌, ◌≤◌, List, [], ◌∷◌, ◌++◌, length, replicate, drop, Option, Some, None, refl, sym, ◌∙◌, ap, subst, arith, append_assoc, append-nil}, Math.Seq.{drop-append_seam}}
use Rattle.json.specs.{Token.{Token}, Tree.{json_tokens}}
use Rattle.borsh_walks.specs.Container.{Shape, IsIn, first, later, Member}
use Rattle.borsh_values.specs.Walks.{IsReadTo}
use Rattle.borsh_plan.specs.declared.named.Named.{Named}
use Rattle.borsh_values.proofs.WalkedLaws.{read_start, read_zero, read_product, read_end}
use Rattle.borsh_json.specs.{declared.kinds.Entries.{Entries as FoundEntries}, declared.kinds.KeyKind.{KeyKind}, declared.kinds.KeyKind.TheVariants.{Text as TextKeys, Number as NumberKeys}, declared.output.LongNumbers.{LongNumbers}, declared.output.Output.{Output}, declared.position.Part.{Part as FoundPart}, declared.position.Parts.{Parts}, declared.position.Parts.TheVariants.{Root}, declared.position.Place.{Place}, declared.sources.EntryKey.{EntryKey}, Checked.{one, AreChecked, nothing_due}, Forms.{Form, tuple, shape_of_form, shapes, HasNoBytes, form_of}, Frames.{IsEntryKey, last_steps}, InOrder.{place}, Leaves.{WritesLeaf, long_of, AreWritten}, Only.{IsOpened, AreOnly}, Places.{IsAt, AreKeysOf, lengths_of}, Represents.{SaysFirst}, Table.{Keys, Kind, no_bytes, whole, utf8, HasKind, Part, key_json}, Writes.{Rest, value_rest, entries_rest, names_of_rest, names_of_all, IsAbove, MayFollow, MayFollowAll, IsLast, IsWhole, Begins, one_more, opened, AreCalled, Nested, unread, entered, passed, Mark, of_pair, AreLevels, no_levels, level, entry_level, IsHalved, IsRestOf, IsRest, AreRests, IsCheckedTo, IsWriting, IsAwaiting, WritesFront, IsFront}}
use Rattle.borsh_json.proofs.{WritingLaws.{begins, ends, key_written, leaf_written, front_written, end_written, entry_taken}, CheckedLaws.{IsDueAs, IsRisen, nothing_owed, product_opened, starts_checked, next_checked, entry_checked, front_checked, end_checked}, FoundLaws.{zero_part}, NestedLaws.{settled, left as left_level}, WrittenLaws.{key_formed, next_written}, WritingPlaces.{key_tokens, TakesPart, TakesEntry, each_pushed, each_popped}}

pub not_in : (x : List ℕ) → IsIn x [] → ⊥
not_in x i = elim i [ ]

pub only_in : (x y : List ℕ) → IsIn x (y ∷ []) → y ≡ x
only_in x y first = refl
only_in x y (later i) = absurd (not_in x i)

module _ (F : List ℕ → Option Form) (root : List ℕ) where
  begun_so : {long : LongNumbers} (P : List Token → List Part → Type 0) (a b : List Token) (d e : List ℕ) → b ≡ a → e ≡ d → Begins F long root P a d → Begins F long root P b e
  begun_so {long = long} P a b d e p q g = subst (λ b. Begins F long root P b e) (sym p) (subst (λ e. Begins F long root P a e) (sym q) g)

  -- names without bytes are passed
  pub skipped : (zeros names : List (List ℕ)) (done left : List ℕ) → ((y : List ℕ) → IsIn y zeros → HasNoBytes F y) → IsReadTo (shapes F) root done (zeros ++ names) left → IsReadTo (shapes F) root done names left
  skipped [] names done left z r = r
  skipped (y ∷ zeros) names done left z r = skipped zeros names done left (λ x i. z x (later i)) (read_zero (shapes F) (z y first) r)

-- keys have bytes
module _ (F : List ℕ → Option Form) (ns : List Named) (k : List ℕ) (f : Form) where
  has_bytes : (kind : Kind) → HasKind F k kind → (kind ≡ no_bytes → ⊥) → HasNoBytes F k → ⊥
  has_bytes kind (inl h) n z = n h.1
  has_bytes kind (inr h) n z = h.0 z

  pub key_full : (kind : KeyKind) (keys : Keys) → AreKeysOf F ns k f kind keys → HasNoBytes F k → ⊥
  key_full TextKeys keys a = has_bytes (utf8 (lengths_of f)) a.1 (λ e. cc)
  key_full (NumberKeys n) keys a = has_bytes (whole n.size n.is_signed n.is_non_zero) a.1 (λ e. cc)

module _ (F : List ℕ → Option Form) (ns : List Named) (root bytes : List ℕ) where
  -- in front of the root
  pub writing_start : {long : LongNumbers} (p : Place) (ps : List Place) (written : List Token) → p.parts ≡ Root → p.begun ≡ 0 → ps ≡ [] → written ≡ [] → IsAt ns 0 root → Member (shapes F) root bytes → IsWriting F ns long root bytes p ps ([], (Root, 0, None), None) [] bytes written
  writing_start p ps written e f g t i m =
      let inner = value_rest (root ∷ []) in
      record {
        inner = inner;
        around = [];
        done = [];
        here = subst (λ (parts : Parts). IsRestOf F ns parts p.begun p.last inner) (sym e) (subst (λ (b : ℕ). IsRestOf F ns Root b p.last inner) (sym f) (([], root) ∷ [], (root, i, refl), refl));
        there = subst (λ (ps : List Place). AreRests F ns ps []) (sym g) refl;
        room = omega arith;
        halved = record { joined = refl; read = read_start (shapes F) m };
        outer = [];
        levels = no_levels;
        nested = unread;
        rises = starts_checked F bytes root;
        begun = begun_so F root (MayFollowAll (inner ∷ [])) [] written [] [] t refl (begins F root);
      }

  behind_done : (done left : List ℕ) → bytes ≡ done ++ left → drop (length done) bytes ≡ left
  behind_done done left e = ap (λ b. drop (length done) b) e ∙ drop-append_seam done left

  module _ {long : LongNumbers} (p q : Place) (ps : List Place) (m : Mark) (ms : List Mark) (left : List ℕ) (written new : List Token) (w : IsWriting F ns long root bytes p ps m ms left written) (parts : q.parts ≡ p.parts) where
    room_for : (128 - length w.around) + length w.around ≡ 128
    room_for = let r = w.room in omega (arith, r)

    -- a part comes next, whose key was written
    pub awaits : (part : FoundPart) → last_steps m.1.0 ≡ [] → q.last ≡ p.last → (t : TakesPart F ns p.parts q.begun p.last part w.inner) → new ≡ written ++ key_tokens part.key → IsRisen F bytes m left → IsAwaiting F ns long root bytes t.name (128 - length w.around) q ps (m.0, one_more m.1 (length w.done), m.2) ms left new
    awaits part plain last t e rises =
        record {
          inner = t.rest;
          around = w.around;
          done = w.done;
          here = subst (λ (k : Parts). IsRestOf F ns k q.begun q.last t.rest) (sym parts) (subst (λ (l : Option EntryKey). IsRestOf F ns p.parts q.begun l t.rest) (sym last) t.here);
          there = w.there;
          room = room_for;
          halved = subst (λ l. IsHalved F root bytes w.done left l) (ap (λ l. l ++ names_of_all w.around) t.names) w.halved;
          value = m.0;
          before = m.1;
          beside = names_of_rest t.rest;
          outer = w.outer;
          levels = level t.rest (m.0, one_more m.1 (length w.done), m.2) plain w.levels;
          nested = subst (λ l. Nested F root (opened m.0 m.1 l ∷ w.outer) w.done) t.names w.nested;
          rises = next_checked F bytes root m w.inner t.rest t.name w.done left t.names (behind_done w.done left w.halved.joined) rises w.rises;
          begun = begun_so F root _ _ new _ w.done e (sym (append-nil w.done)) (key_written F root w.inner t.rest w.around t.name (key_tokens part.key) [] [] (128 - length w.around) written w.done room_for t.taken (λ ps bs h. h) w.begun);
        }

    module _ (es : FoundEntries) (part : FoundPart) (t : TakesEntry F ns es p.parts q.begun p.last part w.inner) where
      names_there : names_of_rest w.inner ≡ t.pair ∷ replicate t.count t.pair
      names_there = ap names_of_rest t.is

      -- the key and the value of the next entry
      pub entry_halved : IsHalved F root bytes w.done left (t.key ∷ t.value ∷ (replicate t.count t.pair ++ names_of_all w.around))
      entry_halved =
          let names = replicate t.count t.pair ++ names_of_all w.around in
          let h = subst (λ l. IsHalved F root bytes w.done left l) (ap (λ l. l ++ names_of_all w.around) names_there) w.halved in
          record { joined = h.joined; read = read_product (shapes F) (ap (λ o. option_map shape_of_form o) t.defined) h.read }

      pair_nested : Nested F root (opened m.0 m.1 (t.pair ∷ replicate t.count t.pair) ∷ w.outer) w.done
      pair_nested = subst (λ l. Nested F root (opened m.0 m.1 l ∷ w.outer) w.done) names_there w.nested

      pair_called : AreCalled (tuple (t.key ∷ t.value ∷ [])) [] of_pair (t.key ∷ t.value ∷ [])
      pair_called i l = let e : suc i - 1 ≡ i = omega arith in ap (λ n. place n ∷ []) e

      pub entry_nested : Nested F root (opened t.pair (of_pair, 0, None) (t.key ∷ t.value ∷ []) ∷ opened m.0 (one_more m.1 (length w.done)) (replicate t.count t.pair) ∷ w.outer) w.done
      entry_nested =
          subst (λ b. Nested F root (opened t.pair (of_pair, 0, None) (t.key ∷ t.value ∷ []) ∷ opened m.0 (one_more m.1 (length w.done)) (replicate t.count t.pair) ∷ w.outer) b) (append-nil w.done) (entered (tuple (t.key ∷ t.value ∷ [])) [] of_pair pair_nested (product_opened F (tuple (t.key ∷ t.value ∷ [])) (t.key ∷ t.value ∷ []) (λ z. key_full F ns t.key (form_of es.key_definition.now) es.key_kind t.keys t.kind (zero_part F (ap (λ o. option_map shape_of_form o) t.defined) z first)) t.defined refl) pair_called)

      -- its key was written
      pub awaits_entry : (own after : List ℕ) (key : EntryKey) (s : List ℕ) → last_steps m.1.0 ≡ place 1 ∷ [] → q.last ≡ Some key → IsEntryKey es.key_kind key s → SaysFirst F t.key (key_json t.keys s) own [] → IsAbove t.keys t.before s → AreOnly F (t.key ∷ []) own
          → IsHalved F root bytes (w.done ++ own) after (t.value ∷ (replicate t.count t.pair ++ names_of_all w.around)) → new ≡ written ++ Token.key s ∷ []
          → IsRisen F bytes m left → left ≡ own ++ after → IsDueAs F t.pair [] (t.key ∷ t.value ∷ []) None → IsDueAs F t.key own [] None
          → IsAwaiting F ns long root bytes t.value (128 - length w.around) q ps (m.0, one_more m.1 (length w.done), m.2) ms after new
      awaits_entry own after key s map last k says above member halved e rises joins pair begins =
          let rest = entries_rest t.keys t.key t.value t.pair t.count (Some s) in
          record {
            inner = rest;
            around = w.around;
            done = w.done ++ own;
            here = subst (λ (k : Parts). IsRestOf F ns k q.begun q.last rest) (sym parts) (t.here q.last (Some s) (subst (λ (l : Option EntryKey). IsLast es.key_kind l (Some s)) (sym last) (s, refl, k)));
            there = w.there;
            room = room_for;
            halved = halved;
            value = t.pair;
            before = (of_pair, 1, Some (length w.done));
            beside = [];
            outer = opened m.0 (one_more m.1 (length w.done)) (replicate t.count t.pair) ∷ w.outer;
            levels = entry_level t.pair (length (w.done ++ own)) rest (m.0, one_more m.1 (length w.done), m.2) map w.levels;
            nested = passed entry_nested member;
            rises = entry_checked F bytes root m w.inner rest t.pair t.key t.value own after w.done left names_there (behind_done w.done left w.halved.joined) rises joins pair begins w.rises;
            begun = begun_so F root _ _ new _ (w.done ++ own) e refl (key_written F root w.inner rest w.around t.value (Token.key s ∷ []) ((t.key, key_json t.keys s) ∷ []) own (128 - length w.around) written w.done room_for
                (λ i j ts qs nj dj m. subst (λ r. MayFollow r i (Token.key s ∷ (json_tokens j ++ ts)) ((t.key, key_json t.keys s) ∷ (t.value, j) ∷ qs)) (sym t.is) (entry_taken t.keys t.key t.value t.pair t.count t.before s above i j ts qs nj dj m))
                (λ ps bs h. next_written F says.0 own [] says.1 says.2 (key_formed F ns t.key (form_of es.key_definition.now) es.key_kind t.keys s says.0 t.kind says.1) h) w.begun);
          }

  -- own bytes of a name are taken
  pub halved_on : (x : List ℕ) (d : Shape) (done left own after : List ℕ) (parts names : List (List ℕ)) → left ≡ own ++ after → (IsReadTo (shapes F) root done (x ∷ names) left → IsReadTo (shapes F) root (done ++ own) (parts ++ names) after) → IsHalved F root bytes done left (x ∷ names) → IsHalved F root bytes (done ++ own) after (parts ++ names)
  halved_on x d done left own after parts names e f h = record {
    joined = h.joined ∙ ap (λ l. done ++ l) e ∙ sym (append_assoc done own after);
    read = f h.read;
  }

  module _ {long : LongNumbers} (x : List ℕ) (n : ℕ) (p : Place) (ps : List Place) (m : Mark) (ms : List Mark) (left : List ℕ) (written : List Token) (a : IsAwaiting F ns long root bytes x n p ps m ms left written) (own after : List ℕ) (old new : Output) where
    -- a value was written whole
    pub leaf_writes : (kept : long_of old ≡ long) (k : ℕ) (zeros : List (List ℕ)) → k ≤ n → Nested F root (opened a.value (one_more a.before (length a.done)) a.beside ∷ a.outer) (a.done ++ own) → (leaf : WritesLeaf F k x own old new) → ((y : List ℕ) → IsIn y zeros → HasNoBytes F y) → IsHalved F root bytes (a.done ++ own) after (zeros ++ names_of_all (a.inner ∷ a.around)) → IsCheckedTo F root bytes [] (m ∷ ms) (a.inner ∷ a.around) after → IsWriting F ns long root bytes p ps m ms after (written ++ json_tokens leaf.json)
    leaf_writes kept k zeros l nested leaf z h rises =
        let s = settled F root nested a.levels in
        record {
          inner = a.inner;
          around = a.around;
          done = a.done ++ own;
          here = a.here;
          there = a.there;
          room = (let r = a.room in omega (arith, r));
          halved = record { joined = h.joined; read = skipped F root zeros (names_of_all (a.inner ∷ a.around)) (a.done ++ own) after z h.read };
          outer = s.0;
          levels = s.1;
          nested = s.2;
          rises = rises;
          begun = leaf_written F root (a.inner ∷ a.around) x n leaf.json own written a.done leaf.numbers (let d = leaf.nests in omega (arith, d, l)) (subst (λ long. (ps : List Part) (bs : List ℕ) → AreWritten F long ps bs → AreWritten F long ((x, leaf.json) ∷ ps) (own ++ bs)) kept leaf.says) a.begun;
        }

    -- or its beginning
    pub front_writes : (kept : long_of old ≡ long) (f : Form) (r : Rest) (q : Place) (qs : List Place) → length a.around < 128 → IsOpened F x f own (names_of_rest r) → AreCalled f own q.parts (names_of_rest r) → IsRest F ns q r → (front : WritesFront F x own r old new) → qs ≡ ps ++ p ∷ [] → IsHalved F root bytes (a.done ++ own) after (names_of_rest r ++ names_of_all (a.inner ∷ a.around)) → (keys : Option (List ℕ)) → left ≡ own ++ after → IsDueAs F x own (names_of_rest r) keys → IsWriting F ns long root bytes q qs (x, (q.parts, 0, None), keys) (m ∷ ms) after (written ++ front.front)
    front_writes kept f r q qs l o called k front e h keys joins due =
        record {
          inner = r;
          around = a.inner ∷ a.around;
          done = a.done ++ own;
          here = k;
          there = subst (λ (qs : List Place). AreRests F ns qs (a.inner ∷ a.around)) (sym e) (each_pushed (IsRest F ns) ps a.around p a.inner a.there a.here);
          room = omega (arith, l);
          halved = h;
          outer = opened a.value (one_more a.before (length a.done)) a.beside ∷ a.outer;
          levels = a.levels;
          nested = entered f own q.parts a.nested o called;
          rises = front_checked F bytes root x own after left r q.parts keys joins due a.rises;
          begun = front_written F root r (a.inner ∷ a.around) x n front.front own written a.done (let m = a.room in omega (arith, m)) (subst (λ long. IsFront F long x own r front.front) kept front.whole) a.begun;
        }

  module _ {long : LongNumbers} (p : Place) (ps : List Place) (m : Mark) (ms : List Mark) (left : List ℕ) (written new brackets : List Token) (w : IsWriting F ns long root bytes p ps m ms left written) (none : names_of_rest w.inner ≡ []) (last : MayFollow w.inner (128 - length w.around) brackets []) (e : new ≡ written ++ brackets) where
    ended : Begins F long root (MayFollowAll w.around) new w.done
    ended = begun_so F root _ _ new _ w.done e (sym (append-nil w.done)) (end_written F root w.inner w.around (128 - length w.around) brackets written w.done (let r = w.room in omega (arith, r)) last w.begun)

    after_end : IsHalved F root bytes w.done left (names_of_all w.around)
    after_end = subst (λ l. IsHalved F root bytes w.done left l) (ap (λ l. l ++ names_of_all w.around) none) w.halved

    rises_after : IsCheckedTo F root bytes [] ms w.around left
    rises_after = end_checked F bytes root m w.inner left none w.rises

    -- the writer goes back to the place around
    pub end_writes : (q : Place) (qs : List Place) (k : Mark) (ks : List Mark) → ps ≡ qs ++ q ∷ [] → ms ≡ k ∷ ks → IsWriting F ns long root bytes q qs k ks left new
    end_writes q qs k ks f e =
        let t = each_popped (IsRest F ns) qs w.around q (subst (λ (ps : List Place). AreRests F ns ps w.around) f w.there) in
        let l = subst (λ (ks : List Mark). AreLevels (t.0 ∷ t.1) ks w.outer) e (subst (λ (rs : List Rest). AreLevels rs ms w.outer) t.4 w.levels) in
        let s = left_level F root (subst (λ l. Nested F root (opened m.0 m.1 l ∷ w.outer) w.done) none w.nested) l in
        record {
          inner = t.0;
          around = t.1;
          done = w.done;
          here = t.2;
          there = t.3;
          room = (let l = ap (λ (l : List Rest). length l) t.4 in let r = w.room in omega (arith, l, r));
          halved = subst (λ l. IsHalved F root bytes w.done left (names_of_all l)) t.4 after_end;
          outer = s.0;
          levels = s.1;
          nested = s.2;
          rises = subst (λ (ks : List Mark). IsCheckedTo F root bytes [] ks (t.0 ∷ t.1) left) e (subst (λ (rs : List Rest). IsCheckedTo F root bytes [] ms rs left) t.4 rises_after);
          begun = subst (λ l. Begins F long root (MayFollowAll l) new w.done) t.4 ended;
        }

    -- or the value has ended
    pub end_whole : ps ≡ [] → ms ≡ [] → IsWhole F long root new bytes × AreChecked F (one root ∷ []) bytes
    end_whole f g =
        let z : w.around ≡ [] = subst (λ (ps : List Place). AreRests F ns ps w.around) f w.there in
        let h = subst (λ l. IsHalved F root bytes w.done left (names_of_all l)) z after_end in
        let l = read_end (shapes F) h.read in
        let b : bytes ≡ w.done = h.joined ∙ ap (λ l. w.done ++ l) l ∙ append-nil w.done in
        let r = ends F root new w.done (subst (λ l. Begins F long root (MayFollowAll l) new w.done) z ended) in
        let t = subst (λ (ks : List Mark). IsCheckedTo F root bytes [] ks [] left) g (subst (λ (rs : List Rest). IsCheckedTo F root bytes [] ms rs left) z rises_after) in
        ((r.0, r.1, r.2, r.3, subst (λ b. AreWritten F long ((root, r.0) ∷ []) b) (sym b) r.4), t.checked (subst (λ b. AreChecked F t.dues b) (sym l) (subst (λ ds. AreChecked F ds []) (sym (nothing_owed F bytes t.owed)) nothing_due)))
