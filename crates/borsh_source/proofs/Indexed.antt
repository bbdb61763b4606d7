-- Items by their names.
use Rattle.std.proofs.Common.{◌≡◌, ℕ, suc, zero, ◌+◌, ◌<◌, List, [], ◌∷◌, length, Some, None, sym, ◌∙◌, ap, refl, subst, arith, inl, inr, ◌⊎◌, true≢false}
use Rattle.std.specs.Prelude.{slice_get, string_bytes, Option, MatchOption, is_some, true, false, bytes_eq}
use Rattle.borsh_walks.proofs.Names.{name_cases}
use Rattle.std.specs.Borrow.{Bor}
use Rattle.std.specs.HashMap.{HashMap, UpdatesBy}
use Rattle.std.proofs.lemmas.Map.Text.{hash_map_updates_str}
use Rattle.borsh_walks.proofs.Tables.{Updated, still, updated_as}
use Rattle.borsh_source.specs.Views.{IsIndexed, IsItem, index_of}
use Rattle.borsh_source.specs.declared.context.Context.{Context}
use Rattle.borsh_source.specs.declared.tree.Item.{Item}

-- a name is marked, and no other changes
pub updated_by : {H : Type 0} (p : List ℕ) (m n : HashMap (Bor (List ℕ)) (Option ℕ) H) (k : Option ℕ) → UpdatesBy (λ x y. bytes_eq x.now y.now) (λ q. bytes_eq p q.now) m n (Some k) → Updated (index_of m) (index_of n) p k
updated_by p m n k u = updated_as p (hash_map_updates_str p m n (Some k) u)

-- what the index leads to has the name
pub indexed_at : (C : Context) (x : List ℕ) (i : ℕ) (item : Item) → IsIndexed C → index_of C.index x ≡ Some (Some i) → slice_get C.source.now.items.items i ≡ Some item → IsItem C.source.now x i item
indexed_at C x i item r e h =
    let s = r.sound x i e in
    let a = s.1.named.at in
    let q : s.0 ≡ item = cc in
    subst (λ z. IsItem C.source.now x i z) q s.1

some_or_none : {A : Type 0} {o : Option A} {x : A} → o ≡ Some x → o ≡ None → ⊥
some_or_none {o = None} e h = no_some (sym e)
  where
    no_some : {A : Type 0} {x : A} → Some x ≡ None → ⊥
    no_some e = true≢false (ap is_some e)
some_or_none {o = Some y} e h = true≢false (ap is_some h)

-- what the index leads to is there
pub not_nowhere : (C : Context) (x : List ℕ) (i : ℕ) → IsIndexed C → index_of C.index x ≡ Some (Some i) → slice_get C.source.now.items.items i ≡ None → ⊥
not_nowhere C x i r e h = let s = r.sound x i e in some_or_none s.1.named.at h

-- the items before an index have their marks, by which they are found that have a name of their own
pub record Indexing (items : List Item) (n : ℕ) (T : List ℕ → Option (Option ℕ)) : Type 0 where
  pub sound : (x : List ℕ) (i : ℕ) → T x ≡ Some (Some i) → (item : Item) × (slice_get items i ≡ Some item) × (string_bytes item.name ≡ x) × ((j : ℕ) (other : Item) → j < n → slice_get items j ≡ Some other → string_bytes other.name ≡ x → j ≡ i)
  pub complete : (i : ℕ) (item : Item) → i < n → slice_get items i ≡ Some item → T (string_bytes item.name) ≡ None → ⊥

pub indexing_none : (items : List Item) (T : List ℕ → Option (Option ℕ)) → ((x : List ℕ) → T x ≡ None) → Indexing items 0 T
indexing_none items T f = record {
  sound = λ x i e. absurd (some_or_none e (f x));
  complete = λ i item h e m. omega arith;
}

before_or_at : (i n : ℕ) → i < n + 1 → (i < n) ⊎ (i ≡ n)
before_or_at zero zero h = inr refl
before_or_at zero (suc n) h = inl (omega arith)
before_or_at (suc i) zero h = absurd (omega arith)
before_or_at (suc i) (suc n) h = elim (before_or_at i n (omega arith)) [ inl a ↦ inl (omega (arith, a)) | inr b ↦ inr (ap suc b) ]

-- what a mark is
mark_is : (n : ℕ) {P : Type 0} (v : Option ℕ) → MatchOption v (Unit {0}) (λ i. (i ≡ n) × P) → (v ≡ None) ⊎ ((v ≡ Some n) × P)
mark_is n None h = inl refl
mark_is n (Some i) h = inr (ap (λ k. Some k) h.0, h.1)

module _ (items : List Item) (n : ℕ) (item : Item) (T U : List ℕ → Option (Option ℕ)) (v : Option ℕ) (r : Indexing items n T) (at : slice_get items n ≡ Some item) (u : Updated T U (string_bytes item.name) v) where
  -- another item of that name was marked before
  none_before : (x : List ℕ) → x ≡ string_bytes item.name → T (string_bytes item.name) ≡ None → (j : ℕ) (other : Item) → j < n + 1 → slice_get items j ≡ Some other → string_bytes other.name ≡ x → j ≡ n
  none_before x q none j other l h m = elim (before_or_at j n l) [ inl a ↦ absurd (r.complete j other a h (ap T (m ∙ q) ∙ none)) | inr b ↦ b ]

  same_item : (j : ℕ) (other : Item) → j ≡ n → slice_get items j ≡ Some other → item ≡ other
  same_item j other b h = let f = subst (λ k. slice_get items k ≡ Some other) b h in cc

  others_only : (x : List ℕ) (i : ℕ) → (x ≡ string_bytes item.name → ⊥) → ((j : ℕ) (other : Item) → j < n → slice_get items j ≡ Some other → string_bytes other.name ≡ x → j ≡ i) → (j : ℕ) (other : Item) → j < n + 1 → slice_get items j ≡ Some other → string_bytes other.name ≡ x → j ≡ i
  others_only x i q only j other l h m = elim (before_or_at j n l) [
    | inl a ↦ only j other a h m
    | inr b ↦ absurd (q (sym m ∙ ap (λ z. string_bytes z.name) (sym (same_item j other b h))))
  ]

  Found : List ℕ → ℕ → Type 0
  Found x i = (item : Item) × (slice_get items i ≡ Some item) × (string_bytes item.name ≡ x) × ((j : ℕ) (other : Item) → j < n + 1 → slice_get items j ≡ Some other → string_bytes other.name ≡ x → j ≡ i)

  found_here : (x : List ℕ) (i : ℕ) → x ≡ string_bytes item.name → v ≡ Some i → (v ≡ None) ⊎ ((v ≡ Some n) × (T (string_bytes item.name) ≡ None)) → Found x i
  unfolding Found
  found_here x i q e (inl k) = absurd (some_or_none e k)
  found_here x i q e (inr k) =
      let a = k.0 in
      let f : n ≡ i = cc in
      (item, subst (λ j. slice_get items j ≡ Some item) f at, sym q, λ j other l h m. none_before x q k.1 j other l h m ∙ f)

  pub indexing_more : MatchOption v (Unit {0}) (λ i. (i ≡ n) × (T (string_bytes item.name) ≡ None)) → Indexing items (n + 1) U
  unfolding Found
  indexing_more first = record {
    sound = λ x i e. elim (name_cases x (string_bytes item.name)) [
      | inl q ↦ (let a = u.here in let b = ap U q in let f : v ≡ Some i = cc in found_here x i q f (mark_is n v first))
      | inr q ↦ (let s = r.sound x i (sym (u.others x q) ∙ e) in (s.0, s.1, s.2, others_only x i q s.3))
    ];
    complete = λ i other h e m. elim (before_or_at i n h) [
      | inl a ↦ still u (string_bytes other.name) (r.complete i other a e) m
      | inr b ↦ some_or_none u.here (ap (λ z. U (string_bytes z.name)) (same_item i other b e) ∙ m)
    ];
  }

-- an element has an index within
within : {A : Type 0} (xs : List A) (i : ℕ) (x : A) → slice_get xs i ≡ Some x → i < length xs
within [] i x e = cc
within (y ∷ xs) zero x e = omega arith
within (y ∷ xs) (suc i) x e = let r = within xs i x e in omega (arith, r)

pub indexed_all : (C : Context) → Indexing C.source.now.items.items (length C.source.now.items.items) (index_of C.index) → IsIndexed C
indexed_all C r = record {
  sound = λ x i e. let s = r.sound x i e in (s.0, record { named = record { at = s.1; name = s.2 }; only = λ j other h m. s.3 j other (within C.source.now.items.items j other h) h m });
  complete = λ x e i item h. r.complete i item (within C.source.now.items.items i item h.at) h.at (ap (index_of C.index) h.name ∙ e);
}
