-- Elements that are read one after another, and behind a count.
use Rattle.std.proofs.Common.{◌≡◌, ℕ, ◌<◌, Bool, true, List, [], ◌∷◌, ◌++◌, length, Option, Some, refl, sym, ◌∙◌, ap, subst, append-nil, append_assoc, arith, true≢false}
use Rattle.std.specs.List.{All}
use Rattle.std.proofs.lemmas.List.Elements.{All-nil, All-push}
use Rattle.borsh_io.specs.declared.error.ErrorKind.{ErrorKind}
use Rattle.borsh_io.specs.Stream.{ReaderState}
use Rattle.borsh_codec.specs.Codec.{Codec, IsDecodable, Lawful}
use Rattle.borsh_codec.specs.Shapes.{unsigned_encoding, unsigned, DecodesEach, array, allocated_array, length_prefixed}
use Rattle.borsh_codec.proofs.Laws.Lists.{same_front, decodable_prefix_free}
use Rattle.borsh_codec.proofs.Laws.Numbers.{unsigned-lawful, number_apart}
use Rattle.borsh_codec.specs.Reading.{TakesPrefix, NoPrefix, ReadFails, Decoded, NotDecoded}
use Rattle.borsh_codec.proofs.ReadSteps.{took_weaker, took_nothing, took_then, refused_map, refused_after, Past, reads_at, denied_at}

in_order_one : {A : Type 0} (P : List ℕ → A → Type 0) (xs : List A) (a : A) (x y : List ℕ) → DecodesEach P x xs → P y a → DecodesEach P (x ++ y) (xs ++ a ∷ [])
in_order_one P [] a x y p q = record { first = y; second = []; whole = ap (λ z. z ++ y) p ∙ sym (append-nil y); left = q; right = refl }
in_order_one P (b ∷ xs) a x y p q = record {
  first = p.first;
  second = p.second ++ y;
  whole = ap (λ z. z ++ y) p.whole ∙ append_assoc p.first p.second y;
  left = p.left;
  right = in_order_one P xs a p.second y p.right q;
}

-- these elements were read so far
pub record RowSoFar (A : Type 0) (c : Codec A) (s t : ReaderState) (xs : List A) : Type 0 where
  pub took : TakesPrefix (λ x. DecodesEach (c.decodes s.strict_order) x xs) s t
  pub made : All c.made xs

pub row_none : {A : Type 0} (c : Codec A) (s : ReaderState) → RowSoFar A c s s []
row_none c s = record { took = took_nothing s refl; made = All-nil c.made }

pub row_more : {A : Type 0} {c : Codec A} {s t u : ReaderState} {xs : List A} {a : A} → RowSoFar A c s t xs → Decoded A c t u a → RowSoFar A c s u (xs ++ a ∷ [])
row_more {c = c} {s = s} {xs = xs} {a = a} p q = record {
  took = took_weaker (λ x i. subst (λ z. DecodesEach (c.decodes s.strict_order) z (xs ++ a ∷ [])) (sym i.whole) (in_order_one (c.decodes s.strict_order) xs a i.first i.second i.left i.right))
      (took_then p.took (reads_at s p.took.takes.strict_order q));
  made = All-push c.made xs a p.made q.made;
}

pub row_all : {A : Type 0} {c : Codec A} {n : ℕ} {s t : ReaderState} {xs : List A} → length xs ≡ n → RowSoFar A c s t xs → Decoded (List A) (array n c) s t xs
row_all e p = record { took = took_weaker (λ x i. record { long = e; parts = i }) p.took; made = p.made }

pub listed_all : {A : Type 0} {c : Codec A} {n : ℕ} {s t : ReaderState} {xs : List A} → length xs ≡ n → RowSoFar A c s t xs → Decoded (List A) (allocated_array n c) s t xs
listed_all e p = record { took = took_weaker (λ x i. record { long = e; parts = i }) p.took; made = p.made }

-- after fewer elements than there are, the next is to come
next_in_order : {A : Type 0} {c : Codec A} → Lawful A c → (m : Bool) (xs ys : List A) (x r y rest : List ℕ) → length xs < length ys → DecodesEach (c.decodes m) x xs → DecodesEach (c.decodes m) y ys → x ++ r ≡ y ++ rest
    → (z w : List ℕ) × (r ≡ z ++ (w ++ rest)) × IsDecodable c m z
next_in_order l m xs [] x r y rest n p q e = absurd (omega arith)
next_in_order l m [] (b ∷ ys) x r y rest n p q e =
    (q.first, q.second, ap (λ z. z ++ r) (sym p) ∙ e ∙ ap (λ z. z ++ rest) q.whole ∙ append_assoc q.first q.second rest, (b, q.left))
next_in_order {c = c} l m (a ∷ xs) (b ∷ ys) x r y rest n p q e =
    let e' : p.first ++ (p.second ++ r) ≡ q.first ++ (q.second ++ rest) =
    sym (append_assoc p.first p.second r) ∙ ap (λ z. z ++ r) (sym p.whole) ∙ e ∙ ap (λ z. z ++ rest) q.whole ∙ append_assoc q.first q.second rest in
    let f = same_front (IsDecodable c m) (decodable_prefix_free l m) p.first (p.second ++ r) q.first (q.second ++ rest) (a, p.left) (b, q.left) e' in
    next_in_order l m xs ys p.second r q.second rest (omega arith) p.right q.right f.1

-- lists that begin with bytes that decode
pub record Begins (A : Type 0) (c : Codec A) (m : Bool) (x : List ℕ) : Type 0 where
  pub front : List ℕ
  pub rest : List ℕ
  pub whole : x ≡ front ++ rest
  pub decodes : IsDecodable c m front

no_begin : {A : Type 0} {c : Codec A} (m : Bool) (o : Option (List ℕ)) → NoPrefix (IsDecodable c m) o → NoPrefix (Begins A c m) o
no_begin m o none front rest e b = none b.front (b.rest ++ rest) (e ∙ ap Some (ap (λ z. z ++ rest) b.whole ∙ append_assoc b.front b.rest rest)) b.decodes

row_past : {A : Type 0} {c : Codec A} → Lawful A c → (m : Bool) (n : ℕ) (xs : List A) → length xs < n → (f r front rest : List ℕ) → DecodesEach (c.decodes m) f xs → IsDecodable (array n c) m front → f ++ r ≡ front ++ rest → Past (Begins A c m) r rest
row_past l m n xs h f r front rest p w e =
    let g = next_in_order l m xs w.0 f r front rest (let k = w.1.long in omega arith) p w.1.parts e in
    record { more = g.0 ++ g.1; whole = g.2 ∙ sym (append_assoc g.0 g.1 rest); holds = record { front = g.0; rest = g.1; whole = refl; decodes = g.3 } }

next : {A : Type 0} {c : Codec A} (s t u : ReaderState) {k : ErrorKind} → t.strict_order ≡ s.strict_order → NotDecoded A c t u k → ReadFails c.decoding_allocates c.texts_allocate (Begins A c s.strict_order) t u k
next {A = A} {c = c} s t u {k = k} e r = subst (λ m. ReadFails c.decoding_allocates c.texts_allocate (Begins A c m) t u k) e (refused_map (λ m. m) (λ m. m) (no_begin t.strict_order) r.refused)

-- fewer elements than n were read, and the next is refused
pub denied_row : {A : Type 0} {c : Codec A} {n : ℕ} {s t u : ReaderState} {xs : List A} {k : ErrorKind} → Lawful A c → RowSoFar A c s t xs → length xs < n → NotDecoded A c t u k → NotDecoded (List A) (array n c) s u k
denied_row {n = n} {s = s} {t = t} {u = u} {xs = xs} l p h r = record { refused = refused_after (λ e. e) (λ e. e) p.took (row_past l s.strict_order n xs h) (next s t u p.took.takes.strict_order r) }

pub denied_listed : {A : Type 0} {c : Codec A} {n : ℕ} {s t u : ReaderState} {xs : List A} {k : ErrorKind} → Lawful A c → RowSoFar A c s t xs → length xs < n → NotDecoded A c t u k → NotDecoded (List A) (allocated_array n c) s u k
denied_listed {n = n} {s = s} {t = t} {u = u} {xs = xs} l p h r = record { refused = refused_after (λ e. refl) (λ e. e) p.took (row_past l s.strict_order n xs h) (next s t u p.took.takes.strict_order r) }

-- what a row is read as, is read into memory too
pub denied_row_listed : {A : Type 0} {c : Codec A} {n : ℕ} {s t : ReaderState} {k : ErrorKind} → NotDecoded (List A) (array n c) s t k → NotDecoded (List A) (allocated_array n c) s t k
denied_row_listed r = record { refused = refused_map (λ e. refl) (λ e. e) (λ o none. none) r.refused }

-- ---- a count and that many elements

pub reads_counted : {A : Type 0} {c : Codec A} {n : ℕ} {s t u : ReaderState} {xs : List A} → Decoded ℕ (unsigned 4) s t n → Decoded (List A) (allocated_array n c) t u xs → Decoded (List A) (length_prefixed c) s u xs
reads_counted {c = c} {n = n} {s = s} {t = t} {u = u} {xs = xs} p q =
    let q' = reads_at s p.took.takes.strict_order q in
    let p' : TakesPrefix (λ y. unsigned_encoding 4 (length xs) ≡ Some y) s t = subst (λ k. TakesPrefix (λ y. unsigned_encoding 4 k ≡ Some y) s t) (sym q'.holds.long) p.took in
    record { took = took_weaker (λ x i. record { first = i.first; second = i.second; whole = i.whole; left = i.left; right = i.right.parts }) (took_then p' q'); made = q.made }

pub denied_count : {A : Type 0} (c : Codec A) {s t : ReaderState} {k : ErrorKind} → NotDecoded ℕ (unsigned 4) s t k → NotDecoded (List A) (length_prefixed c) s t k
denied_count c r = record {
  refused = refused_map (λ e. refl) (λ e. absurd (true≢false (sym e))) (λ o none front rest e w. (let i = w.1 in none i.first (i.second ++ rest) (e ∙ ap Some (ap (λ z. z ++ rest) i.whole ∙ append_assoc i.first i.second rest)) (length w.0, i.left))) r.refused;
}

counted_past : {A : Type 0} {c : Codec A} → (m : Bool) (n : ℕ) (f r front rest : List ℕ) → unsigned_encoding 4 n ≡ Some f → IsDecodable (length_prefixed c) m front → f ++ r ≡ front ++ rest → Past (IsDecodable (allocated_array n c) m) r rest
counted_past m n f r front rest p w e =
    let j = w.1 in
    let e' : f ++ r ≡ j.first ++ (j.second ++ rest) = e ∙ ap (λ z. z ++ rest) j.whole ∙ append_assoc j.first j.second rest in
    let g = same_front (IsDecodable (unsigned 4) true) (decodable_prefix_free (unsigned-lawful 4) true) f r j.first (j.second ++ rest) (n, p) (length w.0, j.left) e' in
    let count : length w.0 ≡ n = number_apart 4 (length w.0) n f (j.left ∙ ap Some (sym g.0)) p in
    record { more = j.second; whole = g.1; holds = (w.0, record { long = count; parts = j.right }) }

pub denied_counted : {A : Type 0} {c : Codec A} {n : ℕ} {s t u : ReaderState} {k : ErrorKind} → Decoded ℕ (unsigned 4) s t n → NotDecoded (List A) (allocated_array n c) t u k → NotDecoded (List A) (length_prefixed c) s u k
denied_counted {n = n} {s = s} p r = record { refused = refused_after (λ e. e) (λ e. e) p.took (counted_past s.strict_order n) (denied_at s p.took.takes.strict_order r) }
