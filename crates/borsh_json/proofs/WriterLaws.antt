-- What the writer's calls give.
use Rattle.std.proofs.{Common.{◌≡◌, inl, inr, ℕ, suc, ◌+◌, ◌-◌, ◌<◌, ◌≤◌, List, [], ◌∷◌, ◌++◌, length, replicate, drop, Option, Some, None, refl, sym, ◌∙◌, ap, subst, arith, append_assoc, append-nil, length-append, String, option_map, IfSome, MatchOption, Bool, true, false, Decides, MatchBool, BTreeMap, Bor, Less}, Math.Seq.{drop-append_seam}}
use Rattle.json.specs.{Json.{null}, Token.{Token}, Tree.{json_tokens}}
use Rattle.borsh_walks.specs.{Container.{Shape, product, Member, of_primitive, of_sequence, of_parts, of_choice, Members, more_members}, Definitions.{definitions_in}, declared.definition.Definition.{Definition}}
use Rattle.borsh_plan.specs.{Names.{name_of}, Plan.{map_of, names_of as plan_names, root_of}, declared.plan.Plan.{Plan}, declared.named.Named.{Named}}
use Rattle.borsh_values.specs.{Membership.{IsUndecided}, Nodes.{Opens}, Cursor.{HasOneTag, OpensOnce}, Walks.{IsReadTo, IsCounted, IsNodeOf, FindsNode, FindsAt}, declared.nodes.Node.{Node}, declared.walker.Walker.{Walker}}
use Rattle.borsh_json.specs.{declared.definitions.Definitions.{Definitions}, declared.error.PartError.{PartError}, declared.error.PartError.TheVariants.{OutOfMemory as NoPartMemory, Refused as RefusedPart}, declared.error.Refusal.{Refusal}, declared.error.Refusal.TheVariants.{TooDeep, Descends}, declared.error.WriteError.{WriteError}, declared.error.WriteError.TheVariants.{OutOfMemory, Refused, Element}, declared.kinds.Elements.{Elements as FoundElements}, declared.kinds.Kind.{Kind as Found}, declared.kinds.Kind.TheVariants.{Numbers, List as ListKind}, declared.kinds.Entries.{Entries as FoundEntries}, declared.kinds.KeyKind.{KeyKind}, declared.kinds.KeyKind.TheVariants.{Text as TextKeys, Number as NumberKeys}, declared.order.Ascent.{Ascent}, declared.order.Ordered.{Ordered}, declared.output.Output.{Output}, declared.position.Key.{Key}, declared.position.Key.TheVariants.{None as NoKey, Name, Entry as EntryOf}, declared.position.Part.{Part as FoundPart}, declared.position.Parts.{Parts}, declared.position.Parts.TheVariants.{Root, List as Elements, Row, Object, Entries as MapEntries, Newtype, Some as Present, Variant}, declared.position.Place.{Place}, declared.position.Position.{Position}, declared.sources.EntryKey.{EntryKey}, declared.writing.Writing.{Writing}, Checked.{one, NeedsNoOrder, IsOnly, AreChecked, plain}, Only.{IsOpened, AreOnly, none_only, empty_only}, Errors.{error_of}, Forms.{Form, form_of, forms_in, shape_of_form, shapes, HasNoBytes}, Found.{forms_of, names_of}, Frames.{Wanted, IsWanted, GivesPart, HasPath, IsKey, IsEntryKey, IsOf, first_steps, last_steps, steps_at, steps_through}, Descents.{HasDescent}, InOrder.{Step, place, element}, Inside.{IsInside}, NoJson.{HasNoJsonPart, IsOutOfOrder, RefusesBytes, RefusesOwn}, Orders.{HasKeyOrder, KindHasOrder, OrderedBy, IsNotBelow}, Leaves.{Adds, IsOpenedAs, WritesLeaf, RefusesKey, RefusesValue, long_of}, Places.{IsAt, AreKeysOf, IsKindOf, lengths_of}, Represents.{SaysFirst}, Table.{Keys, no_bytes, whole, utf8, HasKind, key_order, key_json}, Writes.{IsAbove, IsLast, IsBegunOf, IsWhole, IsWrittenOn, ends_of, Rest, IsRest, WritesFront, names_of_rest, names_of_all, leaf_depth, AreCalled, one_more, opened, Nested, passed, Mark, of_pair, AreEach, IsNewPlace, IsAscending, IsKeyed, IsLastKey, IsComparing, IsMarked, IsRestOf, BeginsNext, TellsAscent, RisesAt, IsWriterOf, IsHalved, IsWriting, IsAwaiting, IsWrittenAs, Stops, IsWritingAt, IsAwaitingAt, IsFull, IsFullOrFalls, AscendsFrom, IsOfWrite, write_steps}}
use Rattle.borsh_walks.proofs.{Laws.{zero_member}, Forms.{shape_is, shapes_are}}
use Rattle.borsh_values.proofs.{MemberLaws.{members_head}, WalkedLaws.{read_product}}
use Rattle.borsh_json.proofs.{CheckedLaws.{IsDueAs, IsRisen, kind_free, same_opened, product_opened, product_due, pair_due, leaf_checked, zero_checked}, FallLaws.{falls, next_steps}, NestedLaws.{read_leaf, inside_of, as_deep, same_steps}, ReadingLaws.{steps_last}, WritingPlaces.{as_many, each_pushed, each_popped, key_tokens, TakesPart, TakesEntry, takes_part, takes_entry, place_ends}, FormKinds.{form_known}, StopLaws.{about_some}, WrittenLaws.{next_written}, OnlyLaws.{value_only}, WritingSteps.{key_full, only_in, halved_on, leaf_writes, front_writes, awaits, entry_halved, entry_nested, awaits_entry, end_writes, end_whole}}

-- ---- nodes
module _ {A : Type 0} (m : BTreeMap (String A) Definition) (x : List ℕ) (old new : Walker) (n : Node) (k : IsNodeOf m x old new n) where
  pub opened_as : IsOpenedAs (forms_in m) x (form_of n.definition.now) n.bytes.now k.parts
  opened_as = (
    ap (λ o. option_map form_of o) k.definition,
    subst (λ C. Opens C (shape_of_form (form_of n.definition.now)) n.bytes.now k.parts) (sym (shapes_are m)) (subst (λ s. Opens (definitions_in m) s n.bytes.now k.parts) (sym (shape_is n.definition.now)) k.opens),
    subst (λ s. IsCounted s) (sym (shape_is n.definition.now)) k.counted,
  )

  pub opened_on : (root done : List ℕ) (parts ps : List (List ℕ)) → Opens (shapes (forms_in m)) (shape_of_form (form_of n.definition.now)) n.bytes.now parts → IsReadTo (shapes (forms_in m)) root done (x ∷ ps) old.left.now → IsReadTo (shapes (forms_in m)) root (done ++ n.bytes.now) (parts ++ ps) new.left.now
  opened_on root done parts ps =
      subst (λ C. Opens C (shape_of_form (form_of n.definition.now)) n.bytes.now parts → IsReadTo C root done (x ∷ ps) old.left.now → IsReadTo C root (done ++ n.bytes.now) (parts ++ ps) new.left.now) (sym (shapes_are m))
      (λ o r. k.onward root done parts ps (subst (λ s. Opens (definitions_in m) s n.bytes.now parts) (shape_is n.definition.now) o) r)

module _ (d : Definitions) (old new : Walker) (at : ℕ) (x : List ℕ) (i : IsAt (names_of d) at x) (same : old.plan.now ≡ d.plan.now) where
  -- the call looked for a node of the name at the place
  pub finds_at : (found : Option Node) → FindsAt at old new found → FindsNode (map_of d.plan.now) (root_of d.plan.now) x old new found
  finds_at found g = subst (λ (l : Plan). name_of (plan_names l) at ≡ Some x → FindsNode (map_of l) (root_of l) x old new found) same (g x) i

  -- and found none
  pub undecided : (name : Bor (List ℕ)) (bytes done : List ℕ) (names : List (List ℕ)) → name.now ≡ x → FindsAt at old new None → IsHalved (forms_of d) (root_of d.plan.now) bytes done old.left.now (x ∷ names) → IsUndecided (shapes (forms_of d)) (root_of d.plan.now) name.now
  undecided name bytes done names e g h =
      let F = forms_of d in
      let m = map_of d.plan.now in
      let root = root_of d.plan.now in
      let u = finds_at None g names (subst (λ C. Members C (x ∷ names) old.left.now) (shapes_are m) h.read.1) in
      subst (λ C. IsUndecided C root name.now) (sym (shapes_are m)) (subst (λ y. IsUndecided (definitions_in m) root y) (sym e) u)

-- ---- refusals
module _ (F : List ℕ → Option Form) (root bytes : List ℕ) where
  refuses_bytes : (path : List Step) (r : Refusal) → HasNoJsonPart F root bytes path r → RefusesBytes F root bytes path r
  refuses_bytes path TooDeep h = about_some F root bytes path _ TooDeep (λ x m. absurd m) h
  refuses_bytes path Descends h = about_some F root bytes path _ Descends (λ x m. absurd m) h
  refuses_bytes path refusal h = h

  module _ (at : List ℕ) (same : at ≡ root) where
    stops_as : (steps : List Step) (r : Refusal) (e : PartError) → IsOf r e → HasPath at steps e → RefusesBytes F root bytes steps r → Stops F root bytes (error_of e)
    stops_as steps r NoPartMemory i p h = tt
    stops_as steps r (RefusedPart path s) i p h = (p.0 ∙ same, subst (λ (l : List Step). RefusesBytes F root bytes l s) (sym p.1) (subst (λ (r : Refusal). RefusesBytes F root bytes steps r) (sym i) h))

    pub stops_descends : (steps : List Step) (e : PartError) → IsOf Descends e → HasPath at steps e → IsOutOfOrder F root bytes steps → Stops F root bytes (error_of e)
    stops_descends steps e i p h = stops_as steps Descends e i p h

    -- the steps lead to a value behind these bytes, inside of at least so many others
    pub record IsDeep (n : ℕ) (path : List Step) (done left x : List ℕ) : Type 0 where
      pub joined : bytes ≡ done ++ left
      pub depth : ℕ
      pub deep : n ≤ depth
      pub inside : IsInside F root depth path done x

    full : (n : ℕ) (steps : List Step) (done left x : List ℕ) → IsDeep n steps done left x → 128 ≤ n → RefusesBytes F root bytes steps TooDeep
    full n steps done left x d l = (d.depth, done, left, x, d.joined, (let a = d.deep in omega (arith, a, l)), d.inside)

    pub stops_full : (n : ℕ) (steps : List Step) (done left x : List ℕ) (e : PartError) → IsDeep n steps done left x → IsFull n e → HasPath at steps e → Stops F root bytes (error_of e)
    stops_full n steps done left x NoPartMemory d f p = tt
    stops_full n steps done left x (RefusedPart path r) d f p = stops_as steps TooDeep (RefusedPart path r) f.0 p (full n steps done left x d f.1)

    pub stops_either : (n : ℕ) (steps : List Step) (done own after left x : List ℕ) → left ≡ own ++ after → (e : PartError) → IsDeep n steps done left x → IsFullOrFalls at steps n (HasDescent F x (own ++ after)) e → Stops F root bytes (error_of e)
    stops_either n steps done own after left x l NoPartMemory d f = tt
    stops_either n steps done own after left x l (RefusedPart path r) d (inl f) = stops_as steps TooDeep (RefusedPart path r) f.0.0 f.1 (full n steps done left x d f.0.1)
    stops_either n steps done own after left x l (RefusedPart path r) d (inr f) =
        stops_descends (steps ++ element (suc f.1) ∷ []) (RefusedPart path r) f.0 f.2 (d.depth, steps, f.1, done, own ++ after, x, refl, d.joined ∙ ap (λ b. done ++ b) l, d.inside, f.3)

    module _ (n : ℕ) (steps : List Step) (done own after left x : List ℕ) (l : left ≡ own ++ after) (d : IsDeep n steps done left x) where
      part_refused : (r : Refusal) (e : PartError) → IsOf r e → HasPath at steps e → RefusesOwn F r x own → Stops F root bytes (error_of e)
      part_refused r e i p h = stops_as steps r e i p (refuses_bytes steps r (d.depth, steps, done, own, after, x, d.joined ∙ ap (λ l. done ++ l) l, d.inside, inl (refl, h)))

      -- bytes that no JSON says
      pub stops_value : (w : WriteError) (e : PartError) → IsOfWrite w e → HasPath at (write_steps steps w) e → RefusesValue F x own w → Stops F root bytes (error_of e)
      stops_value OutOfMemory e i p h = subst (λ (e : PartError). Stops F root bytes (error_of e)) (sym i) tt
      stops_value (Refused r) e i p h = part_refused r e i p h
      stops_value (Element k r) e i p h =
          let path = steps ++ element k ∷ [] in
          stops_as path r e i p (refuses_bytes path r (d.depth, steps, done, own, after, x, d.joined ∙ ap (λ l. done ++ l) l, d.inside, inr (k, refl, h)))

      pub stops_key : (w : WriteError) (e : PartError) → IsOfWrite w e → HasPath at steps e → RefusesKey F x own w → Stops F root bytes (error_of e)
      stops_key OutOfMemory e i p h = subst (λ (e : PartError). Stops F root bytes (error_of e)) (sym i) tt
      stops_key (Refused r) e i p h = part_refused r e i p h
      stops_key (Element k r) e i p h = absurd h

-- ---- order
-- a place that was begun, in the order of its kind
pub in_order : (d : Definitions) (bytes x : List ℕ) (called : Parts) (keys : Option (List ℕ)) (kind : Found) (o : Option Ordered) (new : Option Ascent) → KindHasOrder (forms_of d) (names_of d) x kind → IfSome o (λ order. (es : FoundElements) × (kind ≡ ListKind es) × (es.order ≡ Some order)) → AscendsFrom o new → IsAscending d bytes new (x, (called, 0, None), keys)
in_order d bytes x called keys kind None new k h a = subst (λ (a : Option Ascent). IsAscending d bytes a (x, (called, 0, None), keys)) (sym a) tt
in_order d bytes x called keys kind (Some order) new k h a =
    let F = forms_of d in
    let ns = names_of d in
    let l = subst (λ (kind : Found). KindHasOrder F ns x kind) h.1 k in
    let o = subst (λ (o : Option Ordered). HasKeyOrder F ns x o) (h.2 ∙ ap (λ o. Some o) (sym a.2)) l in
    subst (λ (a : Option Ascent). IsAscending d bytes a (x, (called, 0, None), keys)) (sym a.1) (o, a.3)

-- its keys are those that are due
pub in_turn : (d : Definitions) (bytes : List ℕ) (keys : Option (List ℕ)) (o : Option Ordered) (new : Option Ascent) → AscendsFrom o new → IfSome keys (λ k. MatchOption o ⊥ (λ order. OrderedBy d k order)) → IsComparing d bytes new keys
in_turn d bytes None o new a h = tt
in_turn d bytes (Some k) None new a h = absurd h
in_turn d bytes (Some k) (Some order) new a h = subst (λ (a : Option Ascent). IsComparing d bytes a (Some k)) (sym a.1) (subst (λ (o : Ordered). OrderedBy d k o) (sym a.2) h)

pub still_rest : (F : List ℕ → Option Form) (ns : List Named) (p q : Place) (r : Rest) → q.parts ≡ p.parts → q.begun ≡ p.begun → q.last ≡ p.last → IsRest F ns p r → IsRest F ns q r
still_rest F ns p q r a b c h =
    subst (λ (parts : Parts). IsRestOf F ns parts q.begun q.last r) (sym a)
    (subst (λ (n : ℕ). IsRestOf F ns p.parts n q.last r) (sym b)
    (subst (λ (l : Option EntryKey). IsRestOf F ns p.parts p.begun l r) (sym c) h))

-- ---- room
pub leaf_room : (kind : Found) (n l : ℕ) → n + l ≡ 128 → ((es : FoundElements) → kind ≡ Numbers es → l < 128) → leaf_depth kind ≤ n
leaf_room (Numbers es) n l e g = (let h = g es refl in omega (arith, e, h))
leaf_room kind n l e g = omega arith

abbrev pub IsPlaceBegun : (List ℕ → Option Form) → List Named → List ℕ → Form → List ℕ → Output → Output → Place → Type 0
IsPlaceBegun F ns x f own old new q = (r : Rest) × IsRest F ns q r × WritesFront F x own r old new × IsOpened F x f own (names_of_rest r) × AreCalled f own q.parts (names_of_rest r)

-- the root's place has no order
pub root_marked : (d : Definitions) (bytes : List ℕ) (p : Place) → p.parts ≡ Root → p.begun ≡ 0 → p.ascent ≡ None → IsMarked d bytes p ([], (Root, 0, None), None)
root_marked d bytes p r b a = (subst (λ (a : Option Ascent). IsAscending d bytes a ([], (Root, 0, None), None)) (sym a) tt, (λ es n e. let q : Root ≡ MapEntries es n = sym r ∙ e in cc), tt, r, b)

-- the offset after some bytes
moved : (w new : Writing) (own : List ℕ) → w.walk.offset + length w.walk.left.now ≡ length w.bytes.now → new.bytes ≡ w.bytes → w.walk.left.now ≡ own ++ new.walk.left.now → new.walk.offset ≡ w.walk.offset + length own → new.walk.offset + length new.walk.left.now ≡ length new.bytes.now
moved w new own a same bytes next =
    let b = ap (λ (b : Bor (List ℕ)). length b.now) same in
    let l = ap (λ (b : List ℕ). length b) bytes in
    let j = length-append own new.walk.left.now in
    omega (arith, a, b, l, j, next)

-- what is known of places is still known
module _ (d : Definitions) (b c : Bor (List ℕ)) (same : c ≡ b) where
  still_marked : (p q : Place) (m : Mark) → q ≡ p → IsMarked d b.now p m → IsMarked d c.now q m
  still_marked p q m e h = subst (λ (b : Bor (List ℕ)). IsMarked d b.now q m) (sym same) (subst (λ (p : Place). IsMarked d b.now p m) (sym e) h)

  still_around : (ps qs : List Place) (ms : List Mark) → qs ≡ ps → AreEach (IsMarked d b.now) ps ms → AreEach (IsMarked d c.now) qs ms
  still_around ps qs ms e h = subst (λ (b : Bor (List ℕ)). AreEach (IsMarked d b.now) qs ms) (sym same) (subst (λ (ps : List Place). AreEach (IsMarked d b.now) ps ms) (sym e) h)

-- ---- a value was written
module _ (d : Definitions) (w new : Writing) (x : List ℕ) (f : Form) (own : List ℕ) (a : IsAwaitingAt d w x) (same : new.bytes ≡ w.bytes) (plan : new.walk.plan.now ≡ d.plan.now) (roots : new.position.root ≡ w.position.root)
    (bytes : w.walk.left.now ≡ own ++ new.walk.left.now) (next : new.walk.offset ≡ w.walk.offset + length own)
    (onward : (done : List ℕ) (parts ps : List (List ℕ)) → Opens (shapes (forms_of d)) (shape_of_form f) own parts → IsReadTo (shapes (forms_of d)) (root_of d.plan.now) done (x ∷ ps) w.walk.left.now → IsReadTo (shapes (forms_of d)) (root_of d.plan.now) (done ++ own) (parts ++ ps) new.walk.left.now) where
  -- the writer is in front of the next part of the place
  pub leaf_begun : (kind : Found) → leaf_depth kind ≤ a.room → (h : IsWrittenAs (forms_of d) (names_of d) kind x f own w.out new.out None) → IsOpened (forms_of d) x f own h.1 → IsDueAs (forms_of d) x own h.1 None → new.position.place ≡ w.position.place → new.position.outer.items ≡ w.position.outer.items → IsWritingAt d new new.position.place
  leaf_begun kind l h is due p o =
      let F = forms_of d in
      let ns = names_of d in
      let root = root_of d.plan.now in
      let s = a.state in
      let written = a.writer.tokens ++ json_tokens h.0.json in
      let k = halved_on F ns root w.bytes.now x (shape_of_form f) s.done w.walk.left.now own new.walk.left.now h.1 (names_of_all (s.inner ∷ s.around)) bytes (λ r. onward s.done h.1 (names_of_all (s.inner ∷ s.around)) h.2 r) s.halved in
      let n = read_leaf F root own (names_of_all (s.inner ∷ s.around)) f s.nested is h.3 k.read.1 in
      let t = leaf_writes F ns root w.bytes.now x a.room w.position.place w.position.outer.items a.mark a.marks w.walk.left.now a.writer.tokens s own new.walk.left.now w.out new.out a.writer.kept (leaf_depth kind) h.1 l n h.0 h.3 k (leaf_checked F w.bytes.now root x own new.walk.left.now w.walk.left.now h.1 bytes h.3 due s.rises) in
      record {
        writer = record { plan = plan; long = a.writer.long; kept = h.0.adds.0 ∙ a.writer.kept; tokens = written; holds = h.0.adds.1 a.writer.tokens a.writer.holds; offset = moved w new own a.writer.offset same bytes next; root = ap (λ (b : Bor (List ℕ)). b.now) roots ∙ a.writer.root };
        mark = a.mark;
        marks = a.marks;
        state =
            subst (λ (b : Bor (List ℕ)). IsWriting F ns a.writer.long root b.now new.position.place new.position.outer.items a.mark a.marks new.walk.left.now written) (sym same)
            (subst (λ (q : Place). IsWriting F ns a.writer.long root w.bytes.now q new.position.outer.items a.mark a.marks new.walk.left.now written) (sym p)
            (subst (λ (qs : List Place). IsWriting F ns a.writer.long root w.bytes.now w.position.place qs a.mark a.marks new.walk.left.now written) (sym o) t));
        here = still_marked d w.bytes new.bytes same w.position.place new.position.place a.mark p a.here;
        around = still_around d w.bytes new.bytes same w.position.outer.items new.position.outer.items a.marks o a.around;
      }

  -- or of the first part of another place
  pub place_begun : (q : Place) → length w.position.outer.items < 128 → (h : IsPlaceBegun (forms_of d) (names_of d) x f own w.out new.out q) → (keys : Option (List ℕ)) → IsDueAs (forms_of d) x own (names_of_rest h.0) keys → IsMarked d w.bytes.now q (x, (q.parts, 0, None), keys) → new.position.place ≡ q → new.position.outer.items ≡ w.position.outer.items ++ w.position.place ∷ [] → IsWritingAt d new new.position.place
  place_begun q room h keys due z p o =
      let F = forms_of d in
      let ns = names_of d in
      let root = root_of d.plan.now in
      let s = a.state in
      let written = a.writer.tokens ++ h.2.front in
      let r = h.0 in
      let k = halved_on F ns root w.bytes.now x (shape_of_form f) s.done w.walk.left.now own new.walk.left.now (names_of_rest r) (names_of_all (s.inner ∷ s.around)) bytes (λ t. onward s.done (names_of_rest r) (names_of_all (s.inner ∷ s.around)) h.3.2 t) s.halved in
      let l = as_many (IsRest F ns) w.position.outer.items s.around s.there in
      let t = front_writes F ns root w.bytes.now x a.room w.position.place w.position.outer.items a.mark a.marks w.walk.left.now a.writer.tokens s own new.walk.left.now w.out new.out a.writer.kept f r q new.position.outer.items (omega (arith, l, room)) h.3 h.4 h.1 h.2 o k keys bytes due in
      record {
        writer = record { plan = plan; long = a.writer.long; kept = h.2.adds.0 ∙ a.writer.kept; tokens = written; holds = h.2.adds.1 a.writer.tokens a.writer.holds; offset = moved w new own a.writer.offset same bytes next; root = ap (λ (b : Bor (List ℕ)). b.now) roots ∙ a.writer.root };
        mark = (x, (q.parts, 0, None), keys);
        marks = a.mark ∷ a.marks;
        state =
            subst (λ (b : Bor (List ℕ)). IsWriting F ns a.writer.long root b.now new.position.place new.position.outer.items (x, (q.parts, 0, None), keys) (a.mark ∷ a.marks) new.walk.left.now written) (sym same)
            (subst (λ (z : Place). IsWriting F ns a.writer.long root w.bytes.now z new.position.outer.items (x, (q.parts, 0, None), keys) (a.mark ∷ a.marks) new.walk.left.now written) (sym p) t);
        here = still_marked d w.bytes new.bytes same q new.position.place (x, (q.parts, 0, None), keys) p z;
        around = still_around d w.bytes new.bytes same (w.position.outer.items ++ w.position.place ∷ []) new.position.outer.items (a.mark ∷ a.marks) o (each_pushed (IsMarked d w.bytes.now) w.position.outer.items a.marks w.position.place a.mark a.around a.here);
      }

-- of a place that is begun nothing is known of parts yet
pub new_marked : (d : Definitions) (bytes x : List ℕ) (keys : Option (List ℕ)) (f : Form) (kind : Found) (p q : Place) → IsNewPlace kind p → IsKindOf (forms_of d) (names_of d) x f kind → KindHasOrder (forms_of d) (names_of d) x kind → q.parts ≡ p.parts → q.begun ≡ p.begun → q.last ≡ p.last → IsAscending d bytes q.ascent (x, (q.parts, 0, None), keys) → IsComparing d bytes q.ascent keys → IsMarked d bytes q (x, (q.parts, 0, None), keys)
new_marked d bytes x keys f kind p q h i k a n b c g = (
  c,
  (λ es n e.
      let t = h.2 es n (sym a ∙ e) in
      ((t.0, f, subst (λ (kind : Found). IsKindOf (forms_of d) (names_of d) x f kind) t.1 i, subst (λ (kind : Found). KindHasOrder (forms_of d) (names_of d) x kind) t.1 k), subst (λ (l : Option EntryKey). IsLastKey d bytes es l None) (sym (b ∙ h.1)) tt)),
  g,
  refl,
  n ∙ h.3,
)

-- ---- a node was found of the name that is awaited
some_form : (f g : Form) → Some f ≡ Some g → f ≡ g
some_form f g e = cc

module _ (d : Definitions) (w : Writing) (walk : Walker) (at : ℕ) (x : List ℕ) (plan : w.walk.plan.now ≡ d.plan.now) (i : IsAt (names_of d) at x) (found : Option Node) (n : Node) (is : found ≡ Some n) (g : FindsAt at w.walk walk found) where
  pub node_is : IsNodeOf (map_of d.plan.now) x w.walk walk n
  node_is = finds_at d w.walk walk at x i plan (Some n) (subst (λ (o : Option Node). FindsAt at w.walk walk o) is g)

  pub node_opened : IsOpenedAs (forms_of d) x (form_of n.definition.now) n.bytes.now node_is.parts
  node_opened = opened_as (map_of d.plan.now) x w.walk walk n node_is

  pub node_only : IsOnly (forms_of d) x n.bytes.now node_is.parts
  node_only = (form_of n.definition.now, node_opened.0, subst (λ C. OpensOnce C (shape_of_form (form_of n.definition.now)) n.bytes.now node_is.parts) (sym (shapes_are (map_of d.plan.now))) (subst (λ s. OpensOnce (definitions_in (map_of d.plan.now)) s n.bytes.now node_is.parts) (sym (shape_is n.definition.now)) node_is.once), subst (λ s. HasOneTag s n.bytes.now) (sym (shape_is n.definition.now)) node_is.alone)

  pub node_form : (f : Form) → forms_of d x ≡ Some f → f ≡ form_of n.definition.now
  node_form f e = some_form f (form_of n.definition.now) (sym e ∙ node_opened.0)

  pub node_on : (done : List ℕ) (parts ps : List (List ℕ)) → Opens (shapes (forms_of d)) (shape_of_form (form_of n.definition.now)) n.bytes.now parts → IsReadTo (shapes (forms_of d)) (root_of d.plan.now) done (x ∷ ps) w.walk.left.now → IsReadTo (shapes (forms_of d)) (root_of d.plan.now) (done ++ n.bytes.now) (parts ++ ps) walk.left.now
  node_on done parts ps = opened_on (map_of d.plan.now) x w.walk walk n node_is (root_of d.plan.now) done parts ps

-- ---- no room
marked : (d : Definitions) (bytes : List ℕ) (p : Place) (m : Mark) → IsMarked d bytes p m → (p.parts ≡ m.1.0) × (p.begun ≡ m.1.1)
marked d bytes p m h = (h.3, h.4)

module _ (d : Definitions) (w : Writing) (x : List ℕ) (a : IsAwaitingAt d w x) where
  pub is_deep : IsDeep (forms_of d) (root_of d.plan.now) w.bytes.now w.position.root.now a.writer.root (length w.position.outer.items) (steps_through w.position.outer.items ++ steps_at w.position.place) a.state.done w.walk.left.now x
  is_deep =
      let s = a.state in
      let F = forms_of d in
      let root = root_of d.plan.now in
      let outer = w.position.outer.items in
      let l = as_many (IsRest F (names_of d)) outer s.around s.there in
      let m = as_deep s.levels in
      let all = each_pushed (IsMarked d w.bytes.now) outer a.marks w.position.place a.mark a.around a.here in
      let e = same_steps (IsMarked d w.bytes.now) (marked d w.bytes.now) (outer ++ w.position.place ∷ []) (a.mark ∷ a.marks) all s.levels ∙ steps_last outer w.position.place in
      record { joined = s.halved.joined; depth = length s.outer; deep = omega (arith, l, m); inside = subst (λ (l : List Step). IsInside F root (length s.outer) l s.done x) e (inside_of F root s.nested) }

  pub room_awaiting : a.room + length w.position.outer.items ≡ 128
  room_awaiting = let l = as_many (IsRest (forms_of d) (names_of d)) w.position.outer.items a.state.around a.state.there in let m = a.state.room in omega (arith, l, m)

-- nothing was walked
abbrev writer_still : (d : Definitions) (w new : Writing) (a : IsWriterOf d w) → new.position.root ≡ w.position.root → new.walk ≡ w.walk → new.bytes ≡ w.bytes → (ts : List Token) → Adds ts w.out new.out → IsWriterOf d new
writer_still d w new a roots walk same ts adds = record {
  plan = subst (λ (k : Walker). k.plan.now ≡ d.plan.now) (sym walk) a.plan;
  long = a.long;
  kept = adds.0 ∙ a.kept;
  tokens = a.tokens ++ ts;
  holds = adds.1 a.tokens a.holds;
  offset = subst (λ (k : Walker). k.offset + length k.left.now ≡ length new.bytes.now) (sym walk) (a.offset ∙ ap (λ (b : Bor (List ℕ)). length b.now) (sym same));
  root = ap (λ (b : Bor (List ℕ)). b.now) roots ∙ a.root;
}

-- ---- a name whose values have no bytes, or none of their own
undefined_first : (C : List ℕ → Option Shape) (x bs : List ℕ) → Member C x bs → C x ≡ None → ⊥
undefined_first C x bs (of_primitive c a) e = let q : None ≡ Some _ = sym e ∙ c in cc
undefined_first C x bs (of_sequence k c a b m) e = let q : None ≡ Some _ = sym e ∙ c in cc
undefined_first C x bs (of_parts c m) e = let q : None ≡ Some _ = sym e ∙ c in cc
undefined_first C x bs (of_choice c l m) e = let q : None ≡ Some _ = sym e ∙ c in cc

pub undefined_next : (F : List ℕ → Option Form) (x bs : List ℕ) (ps : List (List ℕ)) → Members (shapes F) (x ∷ ps) bs → F x ≡ None → ⊥
undefined_next F x bs ps (more_members m r) e = undefined_first (shapes F) x _ m (ap (λ o. option_map shape_of_form o) e)

module _ (d : Definitions) (w new : Writing) (x : List ℕ) (a : IsAwaitingAt d w x) (roots : new.position.root ≡ w.position.root) (walk : new.walk ≡ w.walk) (same : new.bytes ≡ w.bytes) where
  -- `null` was written
  pub zero_begun : HasNoBytes (forms_of d) x → Adds (Token.null ∷ []) w.out new.out → new.position.place ≡ w.position.place → new.position.outer.items ≡ w.position.outer.items → IsWritingAt d new new.position.place
  zero_begun z t p o =
      let F = forms_of d in
      let ns = names_of d in
      let root = root_of d.plan.now in
      let s = a.state in
      let written = a.writer.tokens ++ Token.null ∷ [] in
      let names = names_of_all (s.inner ∷ s.around) in
      let leaf : WritesLeaf F 0 x [] w.out new.out = record { json = null; adds = t; numbers = tt; nests = omega arith; says = λ ps bs h. next_written F no_bytes [] [] (inl (z, refl)) (refl, refl, refl) (λ e s q. cc) h } in
      let h = subst (λ b. IsHalved F root w.bytes.now b w.walk.left.now (x ∷ names)) (sym (append-nil s.done)) s.halved in
      let head = members_head (shapes F) s.halved.read.1 in
      let n = passed s.nested (empty_only (subst (λ b. Member (shapes F) x b) (zero_member (shapes F) head.2 z) head.2, z) none_only) in
      let k = leaf_writes F ns root w.bytes.now x a.room w.position.place w.position.outer.items a.mark a.marks w.walk.left.now a.writer.tokens s [] w.walk.left.now w.out new.out a.writer.kept 0 (x ∷ []) (omega arith) n leaf (λ y i. subst (λ y. HasNoBytes F y) (only_in y x i) z) h (zero_checked F w.bytes.now root x w.walk.left.now z s.rises) in
      record {
        writer = writer_still d w new a.writer roots walk same (Token.null ∷ []) t;
        mark = a.mark;
        marks = a.marks;
        state =
            subst (λ (b : Bor (List ℕ)). IsWriting F ns a.writer.long root b.now new.position.place new.position.outer.items a.mark a.marks new.walk.left.now written) (sym same)
            (subst (λ (k : Walker). IsWriting F ns a.writer.long root w.bytes.now new.position.place new.position.outer.items a.mark a.marks k.left.now written) (sym walk)
            (subst (λ (q : Place). IsWriting F ns a.writer.long root w.bytes.now q new.position.outer.items a.mark a.marks w.walk.left.now written) (sym p)
            (subst (λ (qs : List Place). IsWriting F ns a.writer.long root w.bytes.now w.position.place qs a.mark a.marks w.walk.left.now written) (sym o) k)));
        here = still_marked d w.bytes new.bytes same w.position.place new.position.place a.mark p a.here;
        around = still_around d w.bytes new.bytes same w.position.outer.items new.position.outer.items a.marks o a.around;
      }

struct_on : (C : List ℕ → Option Shape) (root x left : List ℕ) (names : List (List ℕ)) (s : Shape) → C x ≡ Some s → s ≡ product names → (done : List ℕ) (parts ps : List (List ℕ)) → Opens C s [] parts → IsReadTo C root done (x ∷ ps) left → IsReadTo C root (done ++ []) (parts ++ ps) left
struct_on C root x left names s c e done parts ps o r =
    let q = subst (λ s. Opens C s [] parts) e o in
    subst (λ b. IsReadTo C root b (parts ++ ps) left) (sym (append-nil done)) (subst (λ l. IsReadTo C root done (l ++ ps) left) (sym q.1) (read_product C (c ∙ ap (λ s. Some s) e) r))

module _ (d : Definitions) (w new : Writing) (x : List ℕ) (a : IsAwaitingAt d w x) (f : Form) (e : forms_of d x ≡ Some f) where
  -- the beginning of a struct was written
  pub struct_begun : (q : Place) → (HasNoBytes (forms_of d) x → ⊥) → new.position.root ≡ w.position.root → new.walk ≡ w.walk → new.bytes ≡ w.bytes → length w.position.outer.items < 128
      → (kind : Found) → IsKindOf (forms_of d) (names_of d) x f kind → KindHasOrder (forms_of d) (names_of d) x kind → (r : Rest) → IsRest (forms_of d) (names_of d) q r → WritesFront (forms_of d) x [] r w.out new.out → shape_of_form f ≡ product (names_of_rest r) → IsNewPlace kind q → AreCalled f [] q.parts (names_of_rest r)
      → new.position.place ≡ q → new.position.outer.items ≡ w.position.outer.items ++ w.position.place ∷ [] → IsWritingAt d new new.position.place
  struct_begun q full roots walk same room kind i k r h t s z called p o =
      let F = forms_of d in
      let root = root_of d.plan.now in
      let c : shapes F x ≡ Some (shape_of_form f) = ap (λ o. option_map shape_of_form o) e in
      place_begun d w new x f [] a same (subst (λ (k : Walker). k.plan.now ≡ d.plan.now) (sym walk) a.writer.plan) roots (ap (λ (k : Walker). k.left.now) (sym walk)) (let e = ap (λ (k : Walker). k.offset) walk in omega (arith, e))
      (λ done parts ps n g. subst (λ (k : Walker). IsReadTo (shapes F) root (done ++ []) (parts ++ ps) k.left.now) (sym walk) (struct_on (shapes F) root x w.walk.left.now (names_of_rest r) (shape_of_form f) c s done parts ps n g)) q room (r, h, t, product_opened F f (names_of_rest r) full e s, called) None (product_due F f (names_of_rest r) e s full) (new_marked d w.bytes.now x None f kind q q z i k refl refl refl (subst (λ (l : Option Ascent). IsAscending d w.bytes.now l (x, (q.parts, 0, None), None)) (sym z.0) tt) tt) p o

-- ---- parts and their keys
-- whether a key is above the last one
pub first_above : (kind : KeyKind) (keys : Keys) (o : Option (List ℕ)) (s : List ℕ) → IsLast kind None o → Decides true (IsAbove keys o s)
first_above kind keys o s e = (λ t. subst (λ o. IsAbove keys o s) (sym e) tt, λ t. refl)

pub next_above : (kind : KeyKind) (keys : Keys) (o : Option (List ℕ)) (s : List ℕ) (last : EntryKey) (b : Bool) → (l : IsLast kind (Some last) o) → Decides b (key_order keys (l.0, null) (s, null) ≡ Less) → Decides b (IsAbove keys o s)
next_above kind keys o s last b l d = subst (λ o. Decides b (IsAbove keys o s)) (sym l.1) d

-- in keys nothing has to ascend
module _ (F : List ℕ → Option Form) (ns : List Named) (k : List ℕ) (f : Form) where
  key_free : (kind : KeyKind) (keys : Keys) → AreKeysOf F ns k f kind keys → NeedsNoOrder F k
  key_free TextKeys keys a = kind_free F (utf8 (lengths_of f)) a.1 (λ l e q. cc) (λ l e q. cc)
  key_free (NumberKeys n) keys a = kind_free F (whole n.size n.is_signed n.is_non_zero) a.1 (λ l e q. cc) (λ l e q. cc)

-- the kind of keys, by the definition that their name has
keys_of_form : (F : List ℕ → Option Form) (ns : List Named) (k : List ℕ) (g f : Form) (kind : KeyKind) (keys : Keys) → AreKeysOf F ns k g kind keys → F k ≡ Some f → AreKeysOf F ns k f kind keys
keys_of_form F ns k g f TextKeys keys a c =
    let l = lengths_of g in
    let h = form_known F (utf8 l) f a.1 c (λ e. cc) in
    (a.0, subst (λ l. HasKind F k (utf8 l)) (sym (ap lengths_of h.1)) a.1)
keys_of_form F ns k g f (NumberKeys n) keys a c = a

module _ (d : Definitions) (i : ℕ) (p q : Place) (part : FoundPart) (b : IsBegunOf d i p q part) where
  -- the first of what was wanted of the place
  wanted_first : (ws : List Wanted) → IsWanted (forms_of d) (names_of d) p.parts p.begun ws → (w : Wanted) × (rest : List Wanted) × (ws ≡ w ∷ rest) × IsAt (names_of d) part.at w.1 × IsKey p.parts part.key w.0 × IsWanted (forms_of d) (names_of d) p.parts q.begun rest
  wanted_first ws h = let g = b.0 ws h in (g.0, g.1, g.2, g.3, g.4, subst (λ (k : Parts). IsWanted (forms_of d) (names_of d) k q.begun g.1) b.1 g.5)

  pub entry_of : (es : FoundEntries) (r : Rest) → part.key ≡ EntryOf es → IsRest (forms_of d) (names_of d) p r → TakesEntry (forms_of d) (names_of d) es p.parts q.begun p.last part r
  entry_of es r k h = takes_entry (forms_of d) (names_of d) es p.parts p.begun q.begun p.last part r k h wanted_first

  -- it is that of an entry, if the parts are entries
  its_entries : (r : Rest) (es : FoundEntries) (n : ℕ) → IsRest (forms_of d) (names_of d) p r → p.parts ≡ MapEntries es n → part.key ≡ EntryOf es
  its_entries r es n h e =
      let k = subst (λ (parts : Parts). IsRestOf (forms_of d) (names_of d) parts p.begun p.last r) e h in
      let w = wanted_first k.5 (subst (λ (parts : Parts). IsWanted (forms_of d) (names_of d) parts p.begun k.5) (sym e) k.11) in
      subst (λ (parts : Parts). IsKey parts part.key w.0.0) e w.4

  -- it begins at the offset
  its_ascent : (bytes : List ℕ) (m : Mark) (done : ℕ) → i ≡ done → IsAscending d bytes p.ascent m → IsAscending d bytes q.ascent (m.0, one_more m.1 done, m.2)
  its_ascent bytes m done e h = next_ascent p.ascent q.ascent h b.3
    where
      next_ascent : (old new : Option Ascent) → IsAscending d bytes old m → BeginsNext old i new → IsAscending d bytes new (m.0, one_more m.1 done, m.2)
      next_ascent None new h n = subst (λ (a : Option Ascent). IsAscending d bytes a (m.0, one_more m.1 done, m.2)) (sym n) tt
      next_ascent (Some a) new h n = subst (λ (a : Option Ascent). IsAscending d bytes a (m.0, one_more m.1 done, m.2)) (sym n.1) (subst (λ (o : Ordered). HasKeyOrder (forms_of d) (names_of d) m.0 (Some o)) (sym n.2) h.0, n.3 ∙ ap (λ i. Some i) e)

  -- the steps to it
  its_steps : (bytes : List ℕ) (m : Mark) → IsMarked d bytes p m → first_steps m.1.0 (suc m.1.1) ≡ first_steps q.parts q.begun
  its_steps bytes m h = ap (λ k. first_steps k (suc m.1.1)) (sym (b.1 ∙ h.3)) ∙ ap (λ n. first_steps q.parts n) (sym (b.4 ∙ ap suc h.4))

  -- one step, unless it is of an entry
  one_step : (r : Rest) → ((es : FoundEntries) → part.key ≡ EntryOf es → ⊥) → IsRest (forms_of d) (names_of d) p r → last_steps p.parts ≡ []
  one_step r n h = by p.parts refl
    where
      by : (parts : Parts) → p.parts ≡ parts → last_steps parts ≡ []
      by Root e = refl
      by (Elements at m) e = refl
      by (Row at m) e = refl
      by (Object at fs) e = refl
      by (MapEntries es m) e = absurd (n es (its_entries r es m h e))
      by (Newtype at) e = refl
      by (Present at) e = refl
      by (Variant v at) e = refl

  -- in the same order
  its_turn : (bytes : List ℕ) (keys : Option (List ℕ)) → IsComparing d bytes p.ascent keys → IsComparing d bytes q.ascent keys
  its_turn bytes keys h = next_turn p.ascent q.ascent h b.3
    where
      next_turn : (old new : Option Ascent) → IsComparing d bytes old keys → BeginsNext old i new → IsComparing d bytes new keys
      next_turn None new h n = subst (λ (a : Option Ascent). IsComparing d bytes a keys) (sym n) h
      next_turn (Some a) new h n = subst (λ (a : Option Ascent). IsComparing d bytes a keys) (sym n.1) (by keys h)
        where
          by : (keys : Option (List ℕ)) → IsComparing d bytes (Some a) keys → IsComparing d bytes (Some n.0) keys
          by None h = tt
          by (Some k) h = subst (λ (o : Ordered). OrderedBy d k o) (sym n.2) h

  pub part_of : (r : Rest) → ((es : FoundEntries) → part.key ≡ EntryOf es → ⊥) → IsRest (forms_of d) (names_of d) p r → TakesPart (forms_of d) (names_of d) p.parts q.begun p.last part r
  part_of r n h = takes_part (forms_of d) (names_of d) p.parts p.begun q.begun p.last part r n h wanted_first

  -- a name is left
  pub next_name : (r : Rest) → IsRest (forms_of d) (names_of d) p r → (key : Key) → part.key ≡ key → (z : List ℕ) × (zs : List (List ℕ)) × (names_of_rest r ≡ z ∷ zs)
  next_name r h NoKey e = let t = part_of r (λ es k. let q : NoKey ≡ EntryOf es = sym e ∙ k in cc) h in (t.name, names_of_rest t.rest, t.names)
  next_name r h (Name n) e = let t = part_of r (λ es k. let q : Name n ≡ EntryOf es = sym e ∙ k in cc) h in (t.name, names_of_rest t.rest, t.names)
  next_name r h (EntryOf es) e = let t = entry_of es r e h in (t.pair, replicate t.count t.pair, ap names_of_rest t.is)

last_there : (bytes done left rest : List ℕ) → bytes ≡ done ++ left → left ≡ rest → drop (length done) bytes ≡ rest
last_there bytes done left rest e f = ap (λ b. drop (length done) b) e ∙ drop-append_seam done left ∙ f

-- the writer's offset is that of the bytes that are read
at_offset : (d : Definitions) (w : Writing) (p : Place) (a : IsWritingAt d w p) → w.walk.offset ≡ length a.state.done
at_offset d w p a =
    let s = a.state in
    let o = a.writer.offset in
    let b = ap (λ (b : List ℕ). length b) s.halved.joined in
    let l = length-append s.done w.walk.left.now in
    omega (arith, o, b, l)

-- the next part isn't above the last one
pub next_falls : (d : Definitions) (w : Writing) (p : Place) (a : IsWritingAt d w p) (z : List ℕ) (zs : List (List ℕ)) → names_of_rest a.state.inner ≡ z ∷ zs → (ascends : Bool) → ascends ≡ false → (ascent : Option Ascent) → IsAscending d w.bytes.now ascent a.mark → TellsAscent d w.bytes.now ascent w.walk.offset ascends → IsOutOfOrder (forms_of d) (root_of d.plan.now) w.bytes.now (next_steps d w p a)
next_falls d w p a z zs names ascends off None h t = let q : true ≡ false = sym t ∙ off in cc
next_falls d w p a z zs names ascends off (Some x) h t = go x.last h.1 t
  where
    go : (last : Option ℕ) → last ≡ a.mark.1.2 → MatchOption last (ascends ≡ true) (λ i. (k : List ℕ) → OrderedBy d k x.order → MatchBool ascends (IsNotBelow d k (drop i w.bytes.now) (drop w.walk.offset w.bytes.now) → ⊥) (IsNotBelow d k (drop i w.bytes.now) (drop w.walk.offset w.bytes.now))) → IsOutOfOrder (forms_of d) (root_of d.plan.now) w.bytes.now (next_steps d w p a)
    go None e t = let q : true ≡ false = sym t ∙ off in cc
    go (Some i) e t =
        let s = a.state in
        let k = h.0.0 in
        let left : w.walk.left.now ≡ drop w.walk.offset w.bytes.now = sym (ap (λ j. drop j w.bytes.now) (at_offset d w p a) ∙ last_there w.bytes.now s.done w.walk.left.now w.walk.left.now s.halved.joined refl) in
        let tells : IsNotBelow d k (drop i w.bytes.now) (drop w.walk.offset w.bytes.now) = subst (λ b. MatchBool b (IsNotBelow d k (drop i w.bytes.now) (drop w.walk.offset w.bytes.now) → ⊥) (IsNotBelow d k (drop i w.bytes.now) (drop w.walk.offset w.bytes.now))) off (t k h.0.1.2) in
        falls d w p a z zs names k x.order h.0.1 i (sym e) (subst (λ b. IsNotBelow d k (drop i w.bytes.now) b) (sym left) tells)

-- the steps to the next part of the place, of which it was begun
pub next_is : (d : Definitions) (w : Writing) (p : Place) (i : ℕ) (q : Place) (part : FoundPart) (a : IsWritingAt d w p) → IsBegunOf d i p q part → next_steps d w p a ≡ steps_through w.position.outer.items ++ first_steps q.parts q.begun
next_is d w p i q part a b =
    let s = a.state in
    let e = same_steps (IsMarked d w.bytes.now) (marked d w.bytes.now) w.position.outer.items a.marks a.around s.levels in
    ap (λ l. l ++ first_steps a.mark.1.0 (suc a.mark.1.1)) e ∙ ap (λ l. steps_through w.position.outer.items ++ l) (its_steps d i p q part b w.bytes.now a.mark a.here)

pub rises_so : (d : Definitions) (w : Writing) (p : Place) (ascent : Option Ascent) (above : Bool) → ascent ≡ p.ascent → above ≡ true → TellsAscent d w.bytes.now ascent w.walk.offset above → RisesAt d w p
rises_so d w p ascent above e t h = subst (λ (a : Option Ascent). TellsAscent d w.bytes.now a w.walk.offset true) e (subst (λ b. TellsAscent d w.bytes.now ascent w.walk.offset b) t h)

abbrev Before : Definitions → Writing → List ℕ → Option ℕ → Type 0
Before d w k s = IfSome (option_map (λ i. drop i w.bytes.now) s) (λ earlier. IsNotBelow d k earlier w.walk.left.now → ⊥)

-- the next part is above the last one
pub part_rises : (d : Definitions) (w : Writing) (p : Place) (a : IsWritingAt d w p) → RisesAt d w p → IsRisen (forms_of d) w.bytes.now a.mark w.walk.left.now
part_rises d w p a tells k e = go p.ascent a.here.0 (subst (λ (o : Option (List ℕ)). IsComparing d w.bytes.now p.ascent o) e a.here.2) tells
  where
    left : w.walk.left.now ≡ drop w.walk.offset w.bytes.now
    left = sym (ap (λ j. drop j w.bytes.now) (at_offset d w p a) ∙ last_there w.bytes.now a.state.done w.walk.left.now w.walk.left.now a.state.halved.joined refl)

    by : (x : Ascent) → OrderedBy d k x.order → (last : Option ℕ) → last ≡ a.mark.1.2 → MatchOption last (true ≡ true) (λ i. (k : List ℕ) → OrderedBy d k x.order → IsNotBelow d k (drop i w.bytes.now) (drop w.walk.offset w.bytes.now) → ⊥) → Before d w k a.mark.1.2
    by x o None q t = subst (Before d w k) q tt
    by x o (Some i) q t = subst (Before d w k) q (λ v. t k o (subst (λ b. IsNotBelow d k (drop i w.bytes.now) b) left v))

    go : (ascent : Option Ascent) → IsAscending d w.bytes.now ascent a.mark → IsComparing d w.bytes.now ascent (Some k) → TellsAscent d w.bytes.now ascent w.walk.offset true → Before d w k a.mark.1.2
    go None h c t = absurd c
    go (Some x) h c t = by x c x.last h.1 t

-- a key that is no entry's was written, or none
pub key_begun : (d : Definitions) (w new : Writing) (p : Place) (part : FoundPart) → IsWritingAt d w p → IsBegunOf d w.walk.offset p w.position.place part → ((es : FoundEntries) → part.key ≡ EntryOf es → ⊥)
    → RisesAt d w p → Adds (key_tokens part.key) w.out new.out → new.walk ≡ w.walk → new.position ≡ w.position → new.bytes ≡ w.bytes → (x : List ℕ) × IsAt (names_of d) part.at x × IsAwaitingAt d new x
key_begun d w new p part a b n tells t walk position bytes =
    let F = forms_of d in
    let ns = names_of d in
    let root = root_of d.plan.now in
    let s = a.state in
    let written = a.writer.tokens ++ key_tokens part.key in
    let q = w.position.place in
    let m : Mark = (a.mark.0, one_more a.mark.1 (length s.done), a.mark.2) in
    let plain = ap last_steps (sym a.here.3) ∙ one_step d w.walk.offset p q part b s.inner n s.here in
    let h = part_of d w.walk.offset p q part b s.inner n s.here in
    let r = awaits F ns root w.bytes.now p q w.position.outer.items a.mark a.marks w.walk.left.now a.writer.tokens written s b.1 part plain b.2 h refl (part_rises d w p a tells) in
    let here : IsMarked d w.bytes.now q m = (its_ascent d w.walk.offset p q part b w.bytes.now a.mark (length s.done) (at_offset d w p a) a.here.0, (λ es k e. absurd (n es (its_entries d w.walk.offset p q part b s.inner es k s.here (sym b.1 ∙ e)))), its_turn d w.walk.offset p q part b w.bytes.now a.mark.2 a.here.2, b.1 ∙ a.here.3, b.4 ∙ ap suc a.here.4) in (
      h.name,
      h.named,
      record {
        writer = writer_still d w new a.writer (ap (λ (k : Position). k.root) position) walk bytes (key_tokens part.key) t;
        room = 128 - length s.around;
        mark = m;
        marks = a.marks;
        state =
            subst (λ (b : Bor (List ℕ)). IsAwaiting F ns a.writer.long root b.now h.name (128 - length s.around) new.position.place new.position.outer.items m a.marks new.walk.left.now written) (sym bytes)
            (subst (λ (k : Walker). IsAwaiting F ns a.writer.long root w.bytes.now h.name (128 - length s.around) new.position.place new.position.outer.items m a.marks k.left.now written) (sym walk)
            (subst (λ (k : Position). IsAwaiting F ns a.writer.long root w.bytes.now h.name (128 - length s.around) k.place k.outer.items m a.marks w.walk.left.now written) (sym position) r));
        here = still_marked d w.bytes new.bytes bytes q new.position.place m (ap (λ (k : Position). k.place) position) here;
        around = still_around d w.bytes new.bytes bytes w.position.outer.items new.position.outer.items a.marks (ap (λ (k : Position). k.outer.items) position) a.around;
      },
    )

module _ (d : Definitions) (w new : Writing) (p : Place) (part : FoundPart) (es : FoundEntries) (a : IsWritingAt d w p) (parts : new.position.place.parts ≡ p.parts)
    (t : TakesEntry (forms_of d) (names_of d) es p.parts new.position.place.begun p.last part a.state.inner) where
  pub entry_next : IsHalved (forms_of d) (root_of d.plan.now) w.bytes.now a.state.done w.walk.left.now (t.key ∷ t.value ∷ (replicate t.count t.pair ++ names_of_all a.state.around))
  entry_next = entry_halved (forms_of d) (names_of d) (root_of d.plan.now) w.bytes.now p new.position.place w.position.outer.items a.mark a.marks w.walk.left.now a.writer.tokens [] a.state parts es part t

  entry_open : Nested (forms_of d) (root_of d.plan.now) (opened t.pair (of_pair, 0, None) (t.key ∷ t.value ∷ []) ∷ opened a.mark.0 (one_more a.mark.1 (length a.state.done)) (replicate t.count t.pair) ∷ a.state.outer) a.state.done
  entry_open = entry_nested (forms_of d) (names_of d) (root_of d.plan.now) w.bytes.now p new.position.place w.position.outer.items a.mark a.marks w.walk.left.now a.writer.tokens [] a.state parts es part t

  module _ (found : Option Node) (n : Node) (is : found ≡ Some n) (g : FindsAt es.key w.walk new.walk found) where
    pub entry_opened : IsOpenedAs (forms_of d) t.key (form_of n.definition.now) n.bytes.now (node_is d w new.walk es.key t.key a.writer.plan t.key_named found n is g).parts
    entry_opened = node_opened d w new.walk es.key t.key a.writer.plan t.key_named found n is g

    pub entry_keys : AreKeysOf (forms_of d) (names_of d) t.key (form_of n.definition.now) es.key_kind t.keys
    entry_keys = keys_of_form (forms_of d) (names_of d) t.key (form_of es.key_definition.now) (form_of n.definition.now) es.key_kind t.keys t.kind entry_opened.0

    -- the key was written
    pub entry_awaits : (key : EntryKey) (names : List (List ℕ)) (s : List ℕ) → IsBegunOf d w.walk.offset p w.position.place part → RisesAt d w p → part.key ≡ EntryOf es → new.position.place.ascent ≡ w.position.place.ascent → new.walk.plan.now ≡ d.plan.now → new.bytes ≡ w.bytes → new.position.outer.items ≡ w.position.outer.items → new.position.root ≡ w.position.root → new.position.place.parts ≡ w.position.place.parts → new.position.place.begun ≡ w.position.place.begun → new.position.place.last ≡ Some key
        → Opens (shapes (forms_of d)) (shape_of_form (form_of n.definition.now)) n.bytes.now names → names ≡ [] → IsEntryKey es.key_kind key s → Adds (Token.key s ∷ []) w.out new.out → SaysFirst (forms_of d) t.key (key_json t.keys s) n.bytes.now [] → IsAbove t.keys t.before s
        → (x : List ℕ) × IsAt (names_of d) part.at x × IsAwaitingAt d new x
    entry_awaits key names s b tells entry ascent plan bytes outer roots same_parts same_begun last opens none k adds says above =
        let F = forms_of d in
        let ns = names_of d in
        let root = root_of d.plan.now in
        let v = a.state in
        let written = a.writer.tokens ++ Token.key s ∷ [] in
        let rest = t.value ∷ (replicate t.count t.pair ++ names_of_all v.around) in
        let node = node_is d w new.walk es.key t.key a.writer.plan t.key_named found n is g in
        let full = key_full F ns t.key (form_of n.definition.now) es.key_kind t.keys entry_keys in
        let own = subst (λ l. IsOpened F t.key (form_of n.definition.now) n.bytes.now l) none (same_opened F (form_of n.definition.now) names full entry_opened.0 opens entry_opened.2 (node_only d w new.walk es.key t.key a.writer.plan t.key_named found n is g)) in
        let h = halved_on F ns root w.bytes.now t.key (shape_of_form (form_of n.definition.now)) v.done w.walk.left.now n.bytes.now new.walk.left.now [] rest node.bytes (λ r. node_on d w new.walk es.key t.key a.writer.plan t.key_named found n is g v.done [] rest own.2 r) entry_next in
        let k2 : Mark = (a.mark.0, one_more a.mark.1 (length v.done), a.mark.2) in
        let first : IsDueAs F t.key n.bytes.now [] None = λ ds after c. plain n.bytes.now [] full (key_free F ns t.key (form_of n.definition.now) es.key_kind t.keys entry_keys) (form_of n.definition.now, own.1, own.3, own.5) c in
        let keyed : IsKeyed d w.bytes.now new.position.place.parts new.position.place.last k2 = λ fs c e.
        (let q : EntryOf es ≡ EntryOf fs = sym entry ∙ its_entries d w.walk.offset p w.position.place part b v.inner fs c v.here (sym parts ∙ e) in
        let same : es ≡ fs = cc in
        let order = (a.here.1 fs c (sym parts ∙ e)).0 in
        let there = subst (λ (fs : FoundEntries). IsLastKey d w.bytes.now fs (Some key) (Some (length v.done))) same (length v.done, t.key, t.keys, s, n.bytes.now, new.walk.left.now, refl, t.key_named, t.kind, k, says, last_there w.bytes.now v.done w.walk.left.now (n.bytes.now ++ new.walk.left.now) v.halved.joined node.bytes) in
        (order, subst (λ (l : Option EntryKey). IsLastKey d w.bytes.now fs l (Some (length v.done))) (sym last) there)) in
        let here : IsMarked d w.bytes.now new.position.place k2 = (subst (λ (o : Option Ascent). IsAscending d w.bytes.now o k2) (sym ascent) (its_ascent d w.walk.offset p w.position.place part b w.bytes.now a.mark (length v.done) (at_offset d w p a) a.here.0), keyed, subst (λ (o : Option Ascent). IsComparing d w.bytes.now o a.mark.2) (sym ascent) (its_turn d w.walk.offset p w.position.place part b w.bytes.now a.mark.2 a.here.2), same_parts ∙ b.1 ∙ a.here.3, same_begun ∙ b.4 ∙ ap suc a.here.4) in
        let r = awaits_entry F ns root w.bytes.now p new.position.place w.position.outer.items a.mark a.marks w.walk.left.now a.writer.tokens written v parts es part t n.bytes.now new.walk.left.now key s (ap last_steps (sym a.here.3 ∙ t.entries.1)) last k says above (subst (λ b. AreOnly F (t.key ∷ []) b) (append-nil n.bytes.now) (value_only F own none_only)) h refl (part_rises d w p a tells) node.bytes (pair_due F t.pair t.key t.value t.defined full) first in (
          t.value,
          t.named,
          record {
            writer = record { plan = plan; long = a.writer.long; kept = adds.0 ∙ a.writer.kept; tokens = written; holds = adds.1 a.writer.tokens a.writer.holds; offset = moved w new n.bytes.now a.writer.offset bytes node.bytes node.next; root = ap (λ (b : Bor (List ℕ)). b.now) roots ∙ a.writer.root };
            room = 128 - length v.around;
            mark = k2;
            marks = a.marks;
            state =
                subst (λ (b : Bor (List ℕ)). IsAwaiting F ns a.writer.long root b.now t.value (128 - length v.around) new.position.place new.position.outer.items k2 a.marks new.walk.left.now written) (sym bytes)
                (subst (λ (l : List Place). IsAwaiting F ns a.writer.long root w.bytes.now t.value (128 - length v.around) new.position.place l k2 a.marks new.walk.left.now written) (sym outer) r);
            here = still_marked d w.bytes new.bytes bytes new.position.place new.position.place k2 refl here;
            around = still_around d w.bytes new.bytes bytes w.position.outer.items new.position.outer.items a.marks outer a.around;
          },
        )

    -- or is refused
    pub entry_stops : (e : WriteError) (pe : PartError) → IsBegunOf d w.walk.offset p w.position.place part → IsOfWrite e pe → HasPath w.position.root.now (steps_through w.position.outer.items ++ (first_steps w.position.place.parts w.position.place.begun ++ place 0 ∷ [])) pe → RefusesKey (forms_of d) t.key n.bytes.now e → Stops (forms_of d) (root_of d.plan.now) w.bytes.now (error_of pe)
    entry_stops e pe b i h r =
        let F = forms_of d in
        let root = root_of d.plan.now in
        let q = w.position.place in
        let outer = steps_through w.position.outer.items in
        let steps = outer ++ (first_steps q.parts q.begun ++ place 0 ∷ []) in
        let node = node_is d w new.walk es.key t.key a.writer.plan t.key_named found n is g in
        let s : next_steps d w p a ++ place 0 ∷ [] ≡ steps = ap (λ l. l ++ place 0 ∷ []) (next_is d w p w.walk.offset q part a b) ∙ append_assoc outer (first_steps q.parts q.begun) (place 0 ∷ []) in
        let there = subst (λ (l : List Step). IsInside F root (suc (length a.state.outer)) l a.state.done t.key) s (inside_of F root entry_open) in
        let deep : IsDeep F root w.bytes.now w.position.root.now a.writer.root 0 steps a.state.done w.walk.left.now t.key = record { joined = entry_next.joined; depth = suc (length a.state.outer); deep = omega arith; inside = there } in
        stops_key F root w.bytes.now w.position.root.now a.writer.root 0 steps a.state.done n.bytes.now new.walk.left.now w.walk.left.now t.key node.bytes deep e pe i h r

-- ---- the parts of a place have ended
pub place_ended : (d : Definitions) (w new : Writing) (p : Place) → IsWritingAt d w p → ((ws : List Wanted) → IsWanted (forms_of d) (names_of d) p.parts p.begun ws → ws ≡ []) → Adds (ends_of p.parts) w.out new.out → new.position.root ≡ w.position.root → new.walk ≡ w.walk → new.bytes ≡ w.bytes
    → (b : Bool) → (b ≡ true → w.position.outer.items ≡ new.position.outer.items ++ new.position.place ∷ []) → (b ≡ false → w.position.outer.items ≡ []) → IsWrittenOn d new b
place_ended d w new p a g t roots walk bytes true left all =
    let F = forms_of d in
    let ns = names_of d in
    let root = root_of d.plan.now in
    let s = a.state in
    let written = a.writer.tokens ++ ends_of p.parts in
    let e = place_ends F ns p.parts p.begun (128 - length s.around) p.last s.inner s.here g in
    let f = each_popped (IsMarked d w.bytes.now) new.position.outer.items a.marks new.position.place (subst (λ (ps : List Place). AreEach (IsMarked d w.bytes.now) ps a.marks) (left refl) a.around) in
    let r = end_writes F ns root w.bytes.now p w.position.outer.items a.mark a.marks w.walk.left.now a.writer.tokens written (ends_of p.parts) s e.0 e.1 refl new.position.place new.position.outer.items f.0 f.1 (left refl) f.4 in
    record {
      writer = writer_still d w new a.writer roots walk bytes (ends_of p.parts) t;
      mark = f.0;
      marks = f.1;
      state =
          subst (λ (b : Bor (List ℕ)). IsWriting F ns a.writer.long root b.now new.position.place new.position.outer.items f.0 f.1 new.walk.left.now written) (sym bytes)
          (subst (λ (k : Walker). IsWriting F ns a.writer.long root w.bytes.now new.position.place new.position.outer.items f.0 f.1 k.left.now written) (sym walk) r);
      here = still_marked d w.bytes new.bytes bytes new.position.place new.position.place f.0 refl f.2;
      around = still_around d w.bytes new.bytes bytes new.position.outer.items new.position.outer.items f.1 refl f.3;
    }
place_ended d w new p a g t roots walk bytes false left all =
    let F = forms_of d in
    let ns = names_of d in
    let root = root_of d.plan.now in
    let s = a.state in
    let written = a.writer.tokens ++ ends_of p.parts in
    let e = place_ends F ns p.parts p.begun (128 - length s.around) p.last s.inner s.here g in
    let r = end_whole F ns root w.bytes.now p w.position.outer.items a.mark a.marks w.walk.left.now a.writer.tokens written (ends_of p.parts) s e.0 e.1 refl (all refl) (subst (λ (ps : List Place). AreEach (IsMarked d w.bytes.now) ps a.marks) (all refl) a.around) in
    record {
      tokens = written;
      holds = t.1 a.writer.tokens a.writer.holds;
      whole = subst (λ (b : Bor (List ℕ)). IsWhole F (long_of new.out) root written b.now) (sym bytes) (subst (λ long. IsWhole F long root written w.bytes.now) (sym (t.0 ∙ a.writer.kept)) r.0);
      rises = subst (λ (b : Bor (List ℕ)). AreChecked F (one root ∷ []) b.now) (sym bytes) r.1;
    }

-- the order of a place was looked at
pub begun_still : (d : Definitions) (i : ℕ) (p q r : Place) (part : FoundPart) → GivesPart d p.parts p.begun q.parts q.begun (Some part) → q.begun ≡ p.begun + 1 → q.parts ≡ p.parts → q.last ≡ p.last → q.ascent ≡ p.ascent → r.parts ≡ q.parts → r.begun ≡ q.begun → r.last ≡ q.last → BeginsNext q.ascent i r.ascent → IsBegunOf d i p r part
begun_still d i p q r part g m e f o a b l n =
    (subst (λ (k : Parts). GivesPart d p.parts p.begun k r.begun (Some part)) (sym a) (subst (λ (n : ℕ). GivesPart d p.parts p.begun q.parts n (Some part)) (sym b) g), a ∙ e, l ∙ f, subst (λ (a : Option Ascent). BeginsNext a i r.ascent) o n, omega (arith, b, m))
