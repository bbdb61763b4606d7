-- The reader's loop.
use Rattle.std.proofs.Common.{◌≡◌, inl, inr, ℕ, suc, zero, ◌+◌, ◌-◌, ◌<◌, List, [], ◌∷◌, ◌++◌, length, map, Option, Some, refl, sym, ◌∙◌, ap, subst, arith, append_assoc, append-nil, length-append, string_bytes, Bool, true, false, codes, slice_get, String, Result, Ok, Err, IfOk, OnOk, IfErr, Global, Bor}
use Rattle.json.specs.{Token.{Token}, Json.{Json, no_items, item}, Find.{BeginsWith}}
use Rattle.borsh_plan.specs.declared.named.Named.{Named}
use Rattle.borsh_json.specs.{declared.error.PartError.{PartError}, declared.error.PartError.TheVariants.{OutOfMemory as NoMemory, Refused as RefusedPart}, declared.error.ReadError.{ReadError}, declared.error.ReadError.TheVariants.{OutOfMemory, Refused}, declared.error.Refusal.{Refusal}, declared.error.Refusal.TheVariants.{TooDeep, RepeatedName, EmptyElements, Expected, MissingField, UnknownName, RepeatedKey, Undefined}, declared.definitions.Definitions.{Definitions}, declared.opening.Frame.{Frame}, declared.parts.Next.TheVariants.{Part, End}, declared.parts.Reading.{Reading}, declared.position.Parts.{Parts}, declared.position.Parts.TheVariants.{Root, List as Elements, Row, Object, Entries as MapEntries, Newtype, Some as Present, Variant}, declared.position.Place.{Place}, declared.sources.Source.{Source}, declared.sources.Source.TheVariants.{One}, Errors.{IsUnreadable}, Forms.{Form, field_bytes}, Found.{forms_of, names_of}, Frames.{FailsRead, HasPath, name_step, first_steps, last_steps, steps_at, steps_through, IsUnread, IsOf, IsOfRead, Left, items_left, fields_left, entries_left, Wanted, HasLeft, SaysOn, IsPlaceOf, IsPlaceIn, IsDoing, IsNext, NoneLeft, DeniesKey, Stands, IsInside, IsBegun, IsEnded, HaveAround, HasRead, HasBegun, IsReadOn, ReadsOn}, InOrder.{Step, field as field_step, place as place_step, element as element_step, variant as variant_step, AreSteps, BeginsParts, IsReached, whole_value, part_of}, NoValue.{FailsHere, LacksField, FailsAt, SaysNothing, HasOther, Why}, Places.{IsAt}, Represents.{SaysFirst, HaveBytes, none_left, next_part}, Table.{Kind, inner, fields, Part as JsonPart, entry_parts}, Writes.{IsFull}}
use Rattle.borsh_json.proofs.{FrameLaws.{get_there}, ReaderLaws.{joined, no_parts, fields_count, reached_none, lacks_none}, LoopLaws.{alone, other_none, fields_same}, MapLaws.{fails_none}}

-- ---- the steps through places
pub steps_last : (ps : List Place) (p : Place) → steps_through (ps ++ p ∷ []) ≡ steps_through ps ++ steps_at p
steps_last [] p = append-nil (steps_at p)
steps_last (q ∷ ps) p = ap (λ l. steps_at q ++ l) (steps_last ps p) ∙ sym (append_assoc (steps_at q) (steps_through ps) (steps_at p))

-- the steps to a part whose object has other members
pub left_steps : (r : Bool) (old new : List Place) (p q : Place) → (r ≡ true → old ≡ new ++ q ∷ []) → (r ≡ false → (old ≡ []) × (q ≡ p) × (new ≡ [])) → (length old ≡ 0 → steps_at p ≡ []) → steps_through new ++ steps_at q ≡ steps_through old
left_steps true old new p q f g h = sym (ap (λ (ps : List Place). steps_through ps) (f refl) ∙ steps_last new q)
left_steps false old new p q f g h =
    let a = g refl in
    let e = h (ap (λ (ps : List Place). length ps) a.0) in
    ap (λ (ps : List Place). steps_through ps ++ steps_at q) a.2 ∙ ap (λ (p : Place). steps_at p) a.1 ∙ e ∙ ap (λ (ps : List Place). steps_through ps) (sym a.0)

-- ---- the steps to a part
before_last : (b : ℕ) (ds : List JsonPart) (q : JsonPart) → b ≡ length (ds ++ q ∷ []) → b - 1 ≡ length ds
before_last b ds q h = let l = length-append ds (q ∷ []) in omega (arith, l, h)

module _ (F : List ℕ → Option Form) (ns : List Named) where
  pub begins_parts : (kind : Kind) (i : Json) (own : List ℕ) (ds : List JsonPart) (l : Left) → SaysOn F ns kind i own ds l → BeginsParts F kind i own ds
  begins_parts kind i own ds (items_left xs js) s = inl (s.0, s.2)
  begins_parts kind i own ds (fields_left gs fs ms n) s = inr (gs, fs, ms, s.0, s.2, s.3, s.4)
  begins_parts kind i own ds (entries_left keys k v es) s = inl (entry_parts keys k v es, s)

  -- fewer parts were begun than there are fields
  fields_long : (all : List Wanted) (i : Json) (own : List ℕ) (ds : List JsonPart) (q : JsonPart) → BeginsParts F (fields all) i own (ds ++ q ∷ []) → length ds < length all
  fields_long all i own ds q (inl b) =
      let c = fields_count all b.1.2 ((ds ++ q ∷ []) ++ b.0) b.1.5 in
      let l = length-append ds (q ∷ []) in
      let m = length-append (ds ++ q ∷ []) b.0 in
      omega (arith, c, l, m)
  fields_long all i own ds q (inr b) =
      let c = fields_count b.0 b.2 (ds ++ q ∷ []) b.6 in
      let l = length-append ds (q ∷ []) in
      let m = length-append b.0 b.1 in
      let e = ap (λ (l : List Wanted). length l) (fields_same all (b.0 ++ b.1) b.3) in
      omega (arith, c, l, m, e)

  steps_there : (p : Parts) (b : ℕ) (kind : Kind) (i : Json) (own : List ℕ) (ds : List JsonPart) (q : JsonPart) → IsPlaceOf F ns p b kind i (ds ++ q ∷ []) → BeginsParts F kind i own (ds ++ q ∷ []) → AreSteps kind i (length ds) (first_steps p b ++ last_steps p)
  steps_there Root b kind i own ds q h f = absurd h
  steps_there (Elements at n) b kind i own ds q h f =
      let g = h.0 in
      let t = ap (λ n. element_step n ∷ []) (before_last b ds q h.1) in
      elim g.2 [
        | inl e ↦ subst (λ (k : Kind). AreSteps k i (length ds) (element_step (b - 1) ∷ [])) (sym e) t
        | inr e ↦ subst (λ (k : Kind). AreSteps k i (length ds) (element_step (b - 1) ∷ [])) (sym e) t
      ]
  steps_there (Row at n) b kind i own ds q h f = subst (λ (k : Kind). AreSteps k i (length ds) (place_step (b - 1) ∷ [])) (sym h.1) (ap (λ n. place_step n ∷ []) (before_last b ds q h.2))
  steps_there (Object at fs) b kind i own ds q h f =
      let names : List Wanted = map field_bytes fs.now.items in
      let t = get_there names (length ds) (fields_long names i own ds q (subst (λ (k : Kind). BeginsParts F k i own (ds ++ q ∷ [])) h.0 f)) in
      subst (λ (k : Kind). AreSteps k i (length ds) (first_steps (Object at fs) b ++ [])) (sym h.0)
      (t.0, t.1, ap (λ n. name_step (slice_get names n) ++ []) (before_last b ds q h.1) ∙ ap (λ (o : Option Wanted). name_step o ++ []) t.1)
  steps_there (MapEntries es n) b kind i own ds q h f =
      let l = length-append ds (q ∷ []) in
      let t = h.5 in
      subst (λ (k : Kind). AreSteps k i (length ds) (element_step (b - 1) ∷ place_step 1 ∷ [])) (sym h.4) (b - 1, inr (omega (arith, l, t), refl))
  steps_there (Newtype at) b kind i own ds q h f = subst (λ (k : Kind). AreSteps k i (length ds) (place_step (b - 1) ∷ [])) (sym h.1) (ap (λ n. place_step n ∷ []) (before_last b ds q h.2))
  steps_there (Present at) b kind i own ds q h f = subst (λ (k : Kind). AreSteps k i (length ds) (variant_step (codes "Some") ∷ [])) (sym h.1) refl
  steps_there (Variant v at) b kind i own ds q h f = subst (λ (k : Kind). AreSteps k i (length ds) (variant_step v.now ∷ [])) (sym h.3) (v.now, h.2, h.4, refl)

  -- the only part of the outermost place is the whole value
  front_one : (ds : List JsonPart) (q : JsonPart) (more : List JsonPart) (p : JsonPart) → (ds ++ q ∷ []) ++ more ≡ p ∷ [] → (ds ≡ []) × (q ≡ p)
  front_one [] q more p e = (refl, cc)
  front_one (a ∷ []) q more p e = cc
  front_one (a ∷ b ∷ ds) q more p e = cc

  only_part : (x : List ℕ) (i : Json) (own : List ℕ) (ds : List JsonPart) (q : JsonPart) → BeginsParts F (inner x) i own (ds ++ q ∷ []) → (own ≡ []) × (ds ≡ []) × (q ≡ (x, i))
  only_part x i own ds q (inl b) = let t = front_one ds q b.0 (x, i) b.1.1 in (b.1.0, t.0, t.1)
  only_part x i own ds q (inr b) = let e : inner x ≡ fields (b.0 ++ b.1) = b.3 in cc

module _ (F : List ℕ → Option Form) (ns : List Named) where
  -- a frame that was opened, at any depth
  deeper : (p : Place) (s : Source) (d : ℕ) (x : List ℕ) (i : Json) (own : List ℕ) → IsDoing F ns p s 1 x i own [] → IsDoing F ns p s (suc d) x i own []
  deeper p s d x i own r = record { left = r.left; here = r.here; kind = r.kind; says = r.says; is_place = r.is_place }

-- ---- where the reader is
abbrev Where : Type 1
Where = ℕ → List Step → List ℕ → List ℕ → Json → Type 0

module _ (F : List ℕ → Option Form) (ns : List Named) (root : List ℕ) (j : Json) where
  pub reached : (d : ℕ) (path : List Step) (before x : List ℕ) (i : Json) → Stands F ns root j d path before x i → (n : ℕ) × IsReached F root j n path before (x, i)
  reached zero path before x i s =
      let r : IsReached F root j 0 [] [] (root, i) = subst (λ (i : Json). IsReached F root j 0 [] [] (root, i)) (sym s.3) whole_value in
      let t : IsReached F root j 0 [] [] (x, i) = subst (λ (x : List ℕ). IsReached F root j 0 [] [] (x, i)) (sym s.2) r in
      let u : IsReached F root j 0 [] before (x, i) = subst (λ (b : List ℕ). IsReached F root j 0 [] b (x, i)) (sym s.1) t in
      (0, subst (λ (p : List Step). IsReached F root j 0 p before (x, i)) (sym s.0) u)
  reached (suc n) path before x i s = (n, s)

  -- the part that was begun last
  pub next_stands : (p : Place) (s : Source) (out y : List ℕ) (k : Json) (d : ℕ) (path : List Step) (before x : List ℕ) (i : Json) → IsBegun F ns root j p s out y k d path before x i → Stands F ns root j (suc d) (path ++ steps_at p) out y k
  next_stands p s out y k zero path before x i r =
      let is = r.doing.is_place in
      let at = r.stands in
      let b = subst (λ (q : Kind). BeginsParts F q i r.own (r.ds ++ (y, k) ∷ [])) is.1 (begins_parts F ns r.doing.kind i r.own (r.ds ++ (y, k) ∷ []) r.doing.left r.doing.says) in
      let w = only_part F ns x i r.own r.ds (y, k) b in
      let m : r.mid ≡ [] = no_parts F r.done w.1 in
      let o : out ≡ [] = r.out_is ∙ ap (λ l. l ++ (r.own ++ r.mid)) at.1 ∙ ap (λ l. l ++ r.mid) w.0 ∙ m in
      let steps : path ++ steps_at p ≡ [] = ap (λ l. l ++ steps_at p) at.0 ∙ ap (λ t. first_steps t p.begun ++ last_steps t) is.0 in
      let part : (y, k) ≡ (root, j) = w.2 ∙ ap (λ x. (x, i)) at.2 ∙ ap (λ i. (root, i)) at.3 in
      let a : IsReached F root j 0 [] [] (y, k) = subst (λ (q : JsonPart). IsReached F root j 0 [] [] q) (sym part) whole_value in
      let b : IsReached F root j 0 [] out (y, k) = subst (λ (l : List ℕ). IsReached F root j 0 [] l (y, k)) (sym o) a in
      subst (λ (l : List Step). IsReached F root j 0 l out (y, k)) (sym steps) b
  next_stands p s out y k (suc d) path before x i r =
      let is = r.doing.is_place in
      let b = begins_parts F ns r.doing.kind i r.own (r.ds ++ (y, k) ∷ []) r.doing.left r.doing.says in
      subst (λ (l : List ℕ). IsReached F root j (suc d) (path ++ steps_at p) l (y, k)) (sym r.out_is)
      (part_of r.doing.kind r.own (steps_at p) r.stands is.0 b r.done (steps_there F ns p.parts p.begun r.doing.kind i r.own r.ds (y, k) is.1 b))

  -- ---- the places around
  pub around_map : (ps : List Place) (ss : List Source) (d : ℕ) (path : List Step) (before x : List ℕ) (i : Json) {R Q : Where} → ((d : ℕ) (path : List Step) (before x : List ℕ) (i : Json) → R d path before x i → Q d path before x i) → HaveAround F ns root j ps ss d path before x i R → HaveAround F ns root j ps ss d path before x i Q
  around_map [] [] d path before x i f h = f d path before x i h
  around_map [] (s ∷ ss) d path before x i f h = absurd h
  around_map (p ∷ ps) [] d path before x i f h = absurd h
  around_map (p ∷ ps) (s ∷ ss) d path before x i f h = (h.0, h.1, h.2, h.3, around_map ps ss (suc d) (path ++ steps_at p) h.0 h.1 h.2 f h.4)

  -- the innermost one
  pub around_here : (ps : List Place) (ss : List Source) (d : ℕ) (path : List Step) (before x : List ℕ) (i : Json) {R : Where} → HaveAround F ns root j ps ss d path before x i R → (e : ℕ) × (to : List Step) × (b : List ℕ) × (y : List ℕ) × (k : Json) × (e ≡ d + length ps) × (to ≡ path ++ steps_through ps) × R e to b y k
  around_here [] [] d path before x i h = (d, path, before, x, i, omega arith, sym (append-nil path), h)
  around_here [] (s ∷ ss) d path before x i h = absurd h
  around_here (p ∷ ps) [] d path before x i h = absurd h
  around_here (p ∷ ps) (s ∷ ss) d path before x i h =
      let r = around_here ps ss (suc d) (path ++ steps_at p) h.0 h.1 h.2 h.4 in
      (r.0, r.1, r.2, r.3, r.4, (let e = r.5 in omega (arith, e)), r.6 ∙ append_assoc path (steps_at p) (steps_through ps), r.7)

  pub pushed : (ps : List Place) (ss : List Source) (p : Place) (s : Source) (d : ℕ) (path : List Step) (before x : List ℕ) (i : Json) (R Q : Where) → ((d : ℕ) (path : List Step) (before x : List ℕ) (i : Json) → R d path before x i → (out : List ℕ) × (y : List ℕ) × (k : Json) × IsBegun F ns root j p s out y k d path before x i × Q (suc d) (path ++ steps_at p) out y k) → HaveAround F ns root j ps ss d path before x i R → HaveAround F ns root j (ps ++ p ∷ []) (ss ++ s ∷ []) d path before x i Q
  pushed [] [] p s d path before x i R Q f h = f d path before x i h
  pushed [] (t ∷ ss) p s d path before x i R Q f h = absurd h
  pushed (q ∷ ps) [] p s d path before x i R Q f h = absurd h
  pushed (q ∷ ps) (t ∷ ss) p s d path before x i R Q f h = (h.0, h.1, h.2, h.3, pushed ps ss p s (suc d) (path ++ steps_at q) h.0 h.1 h.2 R Q f h.4)

  pub popped : (ps : List Place) (ss : List Source) (p : Place) (s : Source) (d : ℕ) (path : List Step) (before x : List ℕ) (i : Json) (R Q : Where) → ((d : ℕ) (path : List Step) (before x : List ℕ) (i : Json) (out y : List ℕ) (k : Json) → IsBegun F ns root j p s out y k d path before x i → R (suc d) (path ++ steps_at p) out y k → Q d path before x i) → HaveAround F ns root j (ps ++ p ∷ []) (ss ++ s ∷ []) d path before x i R → HaveAround F ns root j ps ss d path before x i Q
  popped [] [] p s d path before x i R Q f h = f d path before x i h.0 h.1 h.2 h.3 h.4
  popped [] (t ∷ []) p s d path before x i R Q f h = absurd h.4
  popped [] (t ∷ u ∷ ss) p s d path before x i R Q f h = absurd h.4
  popped (q ∷ []) [] p s d path before x i R Q f h = absurd h.4
  popped (q ∷ r ∷ ps) [] p s d path before x i R Q f h = absurd h.4
  popped (q ∷ ps) (t ∷ ss) p s d path before x i R Q f h = (h.0, h.1, h.2, h.3, popped ps ss p s (suc d) (path ++ steps_at q) h.0 h.1 h.2 R Q f h.4)

  -- no source is left where no place is
  pub bottom : (ps : List Place) (ss : List Source) (d : ℕ) (path : List Step) (before x : List ℕ) (i : Json) (R : Where) → HaveAround F ns root j ps ss d path before x i R → ps ≡ [] → R d path before x i
  bottom [] [] d path before x i R h e = h
  bottom [] (s ∷ ss) d path before x i R h e = absurd h
  bottom (p ∷ ps) ss d path before x i R h e = cc

  pub no_around : (ps qs : List Place) (place : Place) (ss : List Source) (d : ℕ) (path : List Step) (before x : List ℕ) (i : Json) (R : Where) → HaveAround F ns root j ps ss d path before x i R → ss ≡ [] → ps ≡ qs ++ place ∷ [] → ⊥
  no_around [] [] place ss d path before x i R h e f = cc
  no_around [] (q ∷ qs) place ss d path before x i R h e f = cc
  no_around (p ∷ ps) qs place [] d path before x i R h e f = h
  no_around (p ∷ ps) qs place (s ∷ ss) d path before x i R h e f = cc

  -- ---- steps of the loop

  -- in front of the whole value
  pub reading_start : (p : Place) (e : List Token) (ps : List Place) (ss : List Source) (out : List ℕ) → IsAt ns 0 root → BeginsWith e j → p.parts ≡ Root → p.begun ≡ 0 → ps ≡ [] → ss ≡ [] → out ≡ [] → HaveAround F ns root j ps ss 0 [] [] root j (IsInside F ns root j p (One (Some e)) out)
  reading_start p e ps ss out at b parts begun no_places no_sources no_bytes =
      let left = items_left (root ∷ []) (item j no_items) in
      let here : HasLeft F ns Root 0 (One (Some e)) left = (([], root) ∷ [], (root, at, refl), refl, (j, refl, b), (root, j) ∷ [], refl, λ z. z) in
      let doing : IsDoing F ns p (One (Some e)) 0 root j [] [] = record {
        left = left;
        here = subst (λ (q : Parts). HasLeft F ns q p.begun (One (Some e)) left) (sym parts) (subst (λ (k : ℕ). HasLeft F ns Root k (One (Some e)) left) (sym begun) here);
        kind = inner root;
        says = ((root, j) ∷ [], refl, (refl, refl));
        is_place = (parts, refl);
      } in
      let inside : IsInside F ns root j p (One (Some e)) out 0 [] [] root j = record {
        own = [];
        ds = [];
        mid = [];
        stands = (refl, refl, refl, refl);
        doing = doing;
        done = none_left;
        out_is = no_bytes;
      } in
      subst (λ (ps : List Place). HaveAround F ns root j ps ss 0 [] [] root j (IsInside F ns root j p (One (Some e)) out)) (sym no_places) (subst (λ (ss : List Source). HaveAround F ns root j [] ss 0 [] [] root j (IsInside F ns root j p (One (Some e)) out)) (sym no_sources) inside)

  -- a part without parts was read
  pub leaf_inside : (p : Place) (s : Source) (out new own y : List ℕ) (k : Json) (d : ℕ) (path : List Step) (before x : List ℕ) (i : Json) → new ≡ out ++ own → SaysFirst F y k own [] → IsBegun F ns root j p s out y k d path before x i → IsInside F ns root j p s new d path before x i
  leaf_inside p s out new own y k d path before x i e says r = record {
    own = r.own;
    ds = r.ds ++ (y, k) ∷ [];
    mid = r.mid ++ own;
    stands = r.stands;
    doing = r.doing;
    done = joined F r.done (alone F ns y k own says);
    out_is = e ∙ ap (λ l. l ++ own) r.out_is ∙ append_assoc before (r.own ++ r.mid) own ∙ ap (λ l. before ++ l) (append_assoc r.own r.mid own);
  }

  -- a part with parts was opened
  pub frame_inside : (p : Place) (s : Source) (out new own y : List ℕ) (k : Json) (q : Place) (t : Source) (d : ℕ) (path : List Step) (before x : List ℕ) (i : Json) → new ≡ out ++ own → IsDoing F ns q t 1 y k own [] → IsBegun F ns root j p s out y k d path before x i → IsInside F ns root j q t new (suc d) (path ++ steps_at p) out y k
  frame_inside p s out new own y k q t d path before x i e found r = record {
    own = own;
    ds = [];
    mid = [];
    stands = next_stands p s out y k d path before x i r;
    doing = deeper F ns q t d y k own found;
    done = none_left;
    out_is = e ∙ ap (λ l. out ++ l) (sym (append-nil own));
  }

  -- all parts of a part were read
  pub up_inside : (p q : Place) (s t : Source) (last : List ℕ) (d : ℕ) (path : List Step) (before x : List ℕ) (i : Json) (out y : List ℕ) (k : Json) → NoneLeft t → IsBegun F ns root j p s out y k d path before x i → IsEnded F ns root j q t last (suc d) (path ++ steps_at p) out y k → IsInside F ns root j p s last d path before x i
  up_inside p q s t last d path before x i out y k n r e =
      let a = e.all n in
      let whole : HaveBytes F ((y, k) ∷ []) (e.own ++ e.mid) = next_part a.0 e.own e.ds a.1 a.2 (subst (λ (l : List JsonPart). HaveBytes F l e.mid) (sym (append-nil e.ds)) e.done) in
      record {
        own = r.own;
        ds = r.ds ++ (y, k) ∷ [];
        mid = r.mid ++ (e.own ++ e.mid);
        stands = r.stands;
        doing = r.doing;
        done = joined F r.done whole;
        out_is = e.out_is ∙ ap (λ l. l ++ (e.own ++ e.mid)) r.out_is ∙ append_assoc before (r.own ++ r.mid) (e.own ++ e.mid) ∙ ap (λ l. before ++ l) (append_assoc r.own r.mid (e.own ++ e.mid));
      }

  -- and those of the whole
  pub reading_end : (q : Place) (t : Source) (last : List ℕ) → NoneLeft t → IsEnded F ns root j q t last 0 [] [] root j → HaveBytes F ((root, j) ∷ []) last
  reading_end q t last n e =
      let a = e.all n in
      subst (λ (l : List ℕ). HaveBytes F ((root, j) ∷ []) l) (sym (e.out_is ∙ ap (λ l. l ++ e.mid) a.0)) (subst (λ (l : List JsonPart). HaveBytes F l e.mid) a.1 e.done)

  -- what comes next of the innermost place
  pub inside_begun : (p q : Place) (s t : Source) (out new : List ℕ) (at : ℕ) (e : List Token) (d : ℕ) (path : List Step) (before x : List ℕ) (i : Json) (h : IsInside F ns root j p s out d path before x i) → IsNext F ns d x i h.own h.ds q t out new (Part at e) → (y : List ℕ) × (k : Json) × IsAt ns at y × BeginsWith e k × IsBegun F ns root j q t new y k d path before x i
  inside_begun p q s t out new at e d path before x i h n = (
    n.2,
    n.3,
    n.6,
    n.7,
    record {
      own = h.own;
      ds = h.ds ++ n.0;
      mid = h.mid ++ n.1;
      stands = h.stands;
      doing = subst (λ (l : List JsonPart). IsDoing F ns q t d x i h.own l) (sym (append_assoc h.ds n.0 ((n.2, n.3) ∷ []))) n.8;
      done = joined F h.done n.4;
      out_is = n.5 ∙ ap (λ l. l ++ n.1) h.out_is ∙ append_assoc before (h.own ++ h.mid) n.1 ∙ ap (λ l. before ++ l) (append_assoc h.own h.mid n.1);
    },
  )

  pub inside_ended : (p q : Place) (s t : Source) (out new : List ℕ) (d : ℕ) (path : List Step) (before x : List ℕ) (i : Json) (h : IsInside F ns root j p s out d path before x i) → q.parts ≡ p.parts → IsNext F ns d x i h.own h.ds q t out new End → IsEnded F ns root j q t new d path before x i
  inside_ended p q s t out new d path before x i h e n = record {
    own = h.own;
    ds = h.ds;
    mid = h.mid;
    stands = h.stands;
    done = h.done;
    out_is = n.0 ∙ h.out_is;
    at_root = no_steps d h.doing.is_place;
    all = n.1;
    others = n.2;
  }
    where
      no_steps : (d : ℕ) → IsPlaceIn F ns d p x h.doing.kind i h.ds → d ≡ 0 → steps_at q ≡ []
      no_steps zero is z = ap (λ (t : Parts). first_steps t q.begun ++ last_steps t) (e ∙ is.0)
      no_steps (suc d) is z = cc

  -- ---- refusals
  told : (r : Refusal) (e : PartError) (steps : List Step) (base : List ℕ) → base ≡ root → IsOf r e → HasPath base steps e → IsUnreadable r × FailsAt F root j steps r × SaysNothing F root j r → IsUnread F root j e
  told r NoMemory steps base b i h t = tt
  told r (RefusedPart path q) steps base b i h t =
      (subst (λ (r : Refusal). IsUnreadable r) (sym i) t.0, h.0 ∙ b, subst (λ (s : List Step). FailsAt F root j s q) (sym h.1) (subst (λ (r : Refusal). FailsAt F root j steps r) (sym i) t.1), subst (λ (r : Refusal). SaysNothing F root j r) (sym i) t.2)

  module _ (path : List Step) (before x : List ℕ) (i : Json) (n : ℕ) (at : IsReached F root j n path before (x, i)) where
    failed : (r : Refusal) → Why F x i r → FailsHere F x i → IsUnreadable r × FailsAt F root j path r × SaysNothing F root j r
    failed (RepeatedName name) w d = (tt, (n, before, x, i, at, w, d), reached_none F root j at (fails_none F ns x i d))
    failed EmptyElements w d = (tt, (n, before, x, i, at, w, d), reached_none F root j at (fails_none F ns x i d))
    failed (Expected wanted) w d = (tt, (n, before, x, i, at, w, d), reached_none F root j at (fails_none F ns x i d))
    failed (UnknownName name) w d = (tt, (n, before, x, i, at, w, d), reached_none F root j at (fails_none F ns x i d))
    failed (RepeatedKey name) w d = (tt, (n, before, x, i, at, w, d), reached_none F root j at (fails_none F ns x i d))
    failed (Undefined name) w d = (tt, (n, before, x, i, at, w, d), reached_none F root j at (fails_none F ns x i d))
    failed refusal w d = absurd w

    -- a part that isn't read
    pub part_unread : (e : ReadError) (p : PartError) (base : List ℕ) → base ≡ root → IsOfRead e p → HasPath base path p → FailsRead F x i e → IsUnread F root j p
    part_unread OutOfMemory p base b o h d = subst (λ (p : PartError). IsUnread F root j p) (sym o) tt
    part_unread (Refused r) p base b o h d = told r p path base b o h (failed r d.0 d.1)

    -- a field that is missing
    pub missing_unread : (p : PartError) (base : List ℕ) (steps : List Step) (name : List ℕ) → base ≡ root → IsOf MissingField p → HasPath base steps p → steps ≡ path ++ field_step name ∷ [] → LacksField F x i name → IsUnread F root j p
    missing_unread p base steps name b o h e l = told MissingField p steps base b o h (tt, (n, path, name, before, x, i, e, at, l), reached_none F root j at (lacks_none F l))

    -- an object with other members
    pub name_unread : (name : String Global) (p : PartError) (base : List ℕ) (steps : List Step) → base ≡ root → IsOf (UnknownName name) p → HasPath base steps p → steps ≡ path → HasOther F x i (string_bytes name) → IsUnread F root j p
    name_unread name p base steps b o h e other = told (UnknownName name) p path base b o (subst (λ (s : List Step). HasPath base s p) e h) (failed (UnknownName name) (inr other) (inl (other_none F ns x i (string_bytes name) other)))

  -- a part that is too deep
  pub deep_unread : (path : List Step) (before : List ℕ) (q : JsonPart) (n : ℕ) → IsReached F root j n path before q → (p : PartError) (base : List ℕ) (m : ℕ) → base ≡ root → n ≡ m → HasPath base path p → IsFull m p → IsUnread F root j p
  deep_unread path before q n at NoMemory base m b e h f = tt
  deep_unread path before q n at (RefusedPart to r) base m b e h f =
      let g = f.1 in
      told TooDeep (RefusedPart to r) path base b f.0 h (tt, (n, before, q, at, omega (arith, e, g)), tt)

  -- a key that isn't read
  pub key_unread : (d : ℕ) (path : List Step) (before x : List ℕ) (i : Json) (own mid out : List ℕ) (ds : List JsonPart) (q : Place) → Stands F ns root j d path before x i → HaveBytes F ds mid → (e : ReadError) (p : PartError) (base : List ℕ) (outer : List Step) → base ≡ root → outer ≡ path → IsOfRead e p → HasPath base (outer ++ (first_steps q.parts q.begun ++ place_step 0 ∷ [])) p → DeniesKey F ns d x i own ds q e → IsUnread F root j p
  key_unread zero path before x i own mid out ds q at done e p base outer b o i1 h k = absurd (let z = k.3 in omega (arith, z))
  key_unread (suc d) path before x i own mid out ds q at done OutOfMemory p base outer b o i1 h k = subst (λ (p : PartError). IsUnread F root j p) (sym i1) tt
  key_unread (suc d) path before x i own mid out ds q at done (Refused r) p base outer b o i1 h k =
      let steps = first_steps q.parts q.begun ++ place_step 0 ∷ [] in
      let there = part_of k.0 own steps at k.4 k.5 done k.6 in
      told r p (path ++ steps) base b i1 (subst (λ (l : List Step). HasPath base (l ++ steps) p) o h) (failed (path ++ steps) (before ++ (own ++ mid)) k.1 k.2 (suc d) there r k.7.0 k.7.1)

-- a frame was entered
module _ (d : Definitions) (root : List ℕ) (j : Json) (old new : Reading) (at : ℕ) (e : List Token) (f : Frame) (bytes : List ℕ) where
  abbrev F : List ℕ → Option Form
  F = forms_of d

  abbrev ns : List Named
  ns = names_of d

  pub frame_read : HasBegun d root j old at e → ((y : List ℕ) (k : Json) → IsAt ns at y → BeginsWith e k → (own : List ℕ) × (bytes ≡ old.out.items ++ own) × IsDoing F ns f.place f.source 1 y k own []) → (r : Result Bool PartError) → IfOk r (λ more. more ≡ true) → OnOk r ((new.position.place ≡ f.place) × (new.source ≡ f.source)) → OnOk r ((new.position.outer.items ≡ old.position.outer.items ++ old.position.place ∷ []) × (new.outer.items ≡ old.outer.items ++ old.source ∷ [])) → OnOk r (new.out.items ≡ bytes) → OnOk r (new.position.root ≡ old.position.root) → IfErr r (λ e. IsFull (length old.position.outer.items) e) → IfErr r (λ e. HasPath old.position.root.now (steps_through old.position.outer.items ++ steps_at old.position.place) e) → ReadsOn d root j new r
  frame_read b opens (Ok more) m a o s base full path =
      let p = old.position.place in
      let inside = pushed F ns root j old.position.outer.items old.outer.items p old.source 0 [] [] root j _ (IsInside F ns root j f.place f.source bytes) (λ n to before x i h. let g = opens h.0 h.1 h.2 h.3 in (old.out.items, h.0, h.1, h.4, frame_inside F ns root j p old.source old.out.items bytes g.0 h.0 h.1 f.place f.source n to before x i g.1 g.2 h.4)) b.1 in
      let placed = subst (λ (q : Place). HaveAround F ns root j (old.position.outer.items ++ p ∷ []) (old.outer.items ++ old.source ∷ []) 0 [] [] root j (IsInside F ns root j q f.source bytes)) (sym a.0) inside in
      let sourced = subst (λ (t : Source). HaveAround F ns root j (old.position.outer.items ++ p ∷ []) (old.outer.items ++ old.source ∷ []) 0 [] [] root j (IsInside F ns root j new.position.place t bytes)) (sym a.1) placed in
      let written = subst (λ (l : List ℕ). HaveAround F ns root j (old.position.outer.items ++ p ∷ []) (old.outer.items ++ old.source ∷ []) 0 [] [] root j (IsInside F ns root j new.position.place new.source l)) (sym s) sourced in
      let places = subst (λ (ps : List Place). HaveAround F ns root j ps (old.outer.items ++ old.source ∷ []) 0 [] [] root j (IsInside F ns root j new.position.place new.source new.out.items)) (sym o.0) written in
      let sources = subst (λ (ss : List Source). HaveAround F ns root j new.position.outer.items ss 0 [] [] root j (IsInside F ns root j new.position.place new.source new.out.items)) (sym o.1) places in
      let read : HasRead d root j new = (ap (λ (r : Bor (List ℕ)). r.now) base ∙ b.0, sources) in
      subst (λ (more : Bool). IsReadOn d root j new more) (sym m) read
  frame_read b opens (Err p) m a o s base full path =
      let h = around_here F ns root j old.position.outer.items old.outer.items 0 [] [] root j b.1 in
      let g = h.7 in
      let t = next_stands F ns root j old.position.place old.source old.out.items g.0 g.1 h.0 h.1 h.2 h.3 h.4 g.4 in
      deep_unread F ns root j (h.1 ++ steps_at old.position.place) old.out.items (g.0, g.1) h.0 t p old.position.root.now (length old.position.outer.items) b.0 (let e = h.5 in omega (arith, e)) (subst (λ (l : List Step). HasPath old.position.root.now (l ++ steps_at old.position.place) p) (sym h.6) path) full
