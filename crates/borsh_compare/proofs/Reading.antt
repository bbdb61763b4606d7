-- Names on a stack, which are seen through.
use Rattle.std.proofs.Common.{◌≡◌, ℕ, suc, ◌+◌, ◌<◌, List, [], ◌∷◌, ◌++◌, map, drop, get_or, length, Some, None, refl, sym, ◌∙◌, ap, subst, arith}
use Rattle.std.proofs.Math.Seq.{drop-cons}
use Rattle.std.specs.Prelude.{Option}
use Rattle.borsh_walks.specs.Container.{Shape, primitive, sequence, product, choice}
use Rattle.borsh_walks.proofs.Spots.{last_first}
use Rattle.borsh_plan.specs.declared.plan.Plan.{Plan}
use Rattle.borsh_plan.specs.Names.{name_at, parts_in, shape_at}
use Rattle.borsh_plan.specs.Plan.{definitions_of, names_of}
use Rattle.borsh_plan.specs.Zeros.{IsProduct}
use Rattle.borsh_plan.proofs.Places.{name_is}
use Rattle.borsh_values.specs.Free.{FreeSize}
use Rattle.borsh_compare.specs.Together.{PassesTo, stops, passes, opens, GoUntil, onward, GoThrough, by_parts}
use Rattle.borsh_compare.specs.Walks.{Paired, DefinitionsGoAt, GoAt, names_from, Finds, from_place}
use Rattle.borsh_compare.specs.declared.pairs.Pair.{Pair}
use Rattle.borsh_compare.specs.declared.through.Next.{Next}
use Rattle.borsh_compare.proofs.Parts.{shape_defined, definitions_named}

pub leads_on : {C : List ℕ → Option Shape} {xs ys zs : List (List ℕ)} (m n : ℕ) → PassesTo C xs m ys → PassesTo C ys n zs → PassesTo C xs (m + n) zs
leads_on {C} {xs} {zs = zs} m n stops l = subst (λ i. PassesTo C xs i zs) {x = n} {y = 0 + n} (omega arith) l
leads_on {C} {zs = zs} m n (passes {x = x} {xs = xs} {n = i} k free l) r = subst (λ j. PassesTo C (x ∷ xs) j zs) {x = k + (i + n)} {y = (k + i) + n} (omega arith) (passes k free (leads_on i n l r))
leads_on m n (opens e l) r = opens e (leads_on m n l r)

pub pending_more : (p : Plan) (places rest : List ℕ) (at : ℕ) → places ≡ rest ++ at ∷ [] → names_from p places ≡ name_at (names_of p) at ∷ names_from p rest
pending_more p places rest at e = ap (λ l. map (λ i. name_at (names_of p) i) l) (last_first rest places at e)

pub is_product_shape : (d : Shape) → IsProduct d → (ps : List (List ℕ)) × (d ≡ product ps)
is_product_shape (primitive n) h = absurd h
is_product_shape (sequence w lo hi e) h = absurd h
is_product_shape (product ps) h = (ps, refl)
is_product_shape (choice w vs) h = absurd h

-- a name of one length is passed
pub leads_past : (p : Plan) (xs ys : List (List ℕ)) (at bytes size : ℕ) → PassesTo (definitions_of p) xs bytes (name_at (names_of p) at ∷ ys) → FreeSize (definitions_of p) (name_at (names_of p) at) size → PassesTo (definitions_of p) xs (bytes + size) ys
leads_past p xs ys at bytes size l free = subst (λ n. PassesTo (definitions_of p) xs n ys) {x = bytes + (size + 0)} {y = bytes + size} (omega arith) (leads_on bytes (size + 0) l (passes size free stops))

-- of a struct or tuple the parts come
pub leads_in : (p : Plan) (xs ys : List (List ℕ)) (at bytes : ℕ) (ps : List (List ℕ)) → PassesTo (definitions_of p) xs bytes (name_at (names_of p) at ∷ ys) → shape_at (names_of p) at ≡ Some (product ps) → PassesTo (definitions_of p) xs bytes (parts_in (shape_at (names_of p) at) ++ ys)
leads_in p xs ys at bytes ps l e =
    let there : PassesTo (definitions_of p) (name_at (names_of p) at ∷ ys) 0 (ps ++ ys) = opens (shape_defined p at (product ps) e) stops in
    let a : PassesTo (definitions_of p) xs (bytes + 0) (ps ++ ys) = leads_on bytes 0 l there in
    subst (λ n. PassesTo (definitions_of p) xs n (parts_in (shape_at (names_of p) at) ++ ys)) {x = bytes + 0} {y = bytes} (omega arith) (subst (λ o. PassesTo (definitions_of p) xs (bytes + 0) (parts_in o ++ ys)) (sym e) a)

-- the two names that come next go together
pub goes_next : (old new : Plan) (pairs : List Pair) (xs ys : List (List ℕ)) (xs2 ys2 us vs : List ℕ) (a b : Next) (i j : ℕ) → GoUntil (definitions_of old) (definitions_of new) (Paired old new pairs) xs ys (names_from old xs2) (names_from new ys2) → Finds old xs2 us a → Finds new ys2 vs b → a.bytes ≡ b.bytes → a.at ≡ Some i → b.at ≡ Some j → DefinitionsGoAt old new pairs i j → GoUntil (definitions_of old) (definitions_of new) (Paired old new pairs) xs ys (names_from old us) (names_from new vs)
goes_next old new pairs xs ys xs2 ys2 us vs a b i j g f h e p q d =
    onward a.bytes g (subst (λ o. PassesTo (definitions_of old) (names_from old xs2) a.bytes (from_place old o us)) p f)
    (subst (λ n. PassesTo (definitions_of new) (names_from new ys2) n (name_at (names_of new) j ∷ names_from new vs)) (sym e) (subst (λ o. PassesTo (definitions_of new) (names_from new ys2) b.bytes (from_place new o vs)) q h)) (definitions_named old new pairs i j d)

-- both end
pub goes_ends : (old new : Plan) (pairs : List Pair) (i j : ℕ) (xs2 ys2 us vs : List ℕ) (a b : Next) → GoUntil (definitions_of old) (definitions_of new) (Paired old new pairs) (name_at (names_of old) i ∷ []) (name_at (names_of new) j ∷ []) (names_from old xs2) (names_from new ys2) → Finds old xs2 us a → Finds new ys2 vs b → a.bytes ≡ b.bytes → a.at ≡ None → b.at ≡ None → GoAt old new pairs i j
goes_ends old new pairs i j xs2 ys2 us vs a b g f h e p q x y ex ey =
    let C = definitions_of old in
    let D = definitions_of new in
    let R = Paired old new pairs in
    let t : GoThrough C D R (name_at (names_of old) i ∷ []) (name_at (names_of new) j ∷ []) = record {
      bytes = a.bytes;
      old_left = names_from old xs2;
      new_left = names_from new ys2;
      before = g;
      old = subst (λ o. PassesTo C (names_from old xs2) a.bytes (from_place old o us)) p f;
      new = subst (λ n. PassesTo D (names_from new ys2) n []) (sym e) (subst (λ o. PassesTo D (names_from new ys2) b.bytes (from_place new o vs)) q h);
    } in
    by_parts (subst (λ z. GoThrough C D R (x ∷ []) (z ∷ [])) ((name_is (names_of new) j y ey).1) (subst (λ z. GoThrough C D R (z ∷ []) (name_at (names_of new) j ∷ [])) ((name_is (names_of old) i x ex).1) t))

-- one more part is put on the stack
pub open_step : (p : Plan) (places more init parts : List ℕ) (left i : ℕ) → more ≡ places ++ get_or parts i 0 ∷ [] → left ≡ suc i → i < length parts → names_from p places ≡ map (λ i. name_at (names_of p) i) (drop left parts) ++ names_from p init → names_from p more ≡ map (λ i. name_at (names_of p) i) (drop i parts) ++ names_from p init
open_step p places more init parts left i e l low h =
    let f : ℕ → List ℕ = λ i. name_at (names_of p) i in
    pending_more p more places (get_or parts i 0) e ∙ ap (λ z. f (get_or parts i 0) ∷ z) (h ∙ ap (λ n. map f (drop n parts) ++ names_from p init) l) ∙ sym (ap (λ z. map f z ++ names_from p init) (drop-cons parts i 0 low))
