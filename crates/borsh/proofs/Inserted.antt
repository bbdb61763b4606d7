-- Inserting entries in turn leaves each key in its first place, with its last value.
use Rattle.std.proofs.Common.{◌≡◌, Bool, true, false, not, ◌&&◌, cond, List, [], ◌∷◌, ◌++◌, Option, Some, None, refl, sym, ◌∙◌, ap, append_assoc, true≢false}
use Rattle.std.specs.Prelude.{if◌then◌else◌, filter, reverse}
use Rattle.std.specs.Option.{option_or}
use Rattle.std.specs.Cmp.{IsEquivalence}
use Rattle.std.specs.List.{list_all}
use Rattle.std.specs.Map.{keys_of, lookup}
use Rattle.std.proofs.lemmas.Grind.{reverse_onto}
use Rattle.std.proofs.lemmas.List.{append-nil}
use Rattle.std.proofs.lemmas.List.Folds.{list_all-append}
use Rattle.indexmap.specs.IndexMap.{insert_entry, insert_all}
use Rattle.borsh.specs.Inserted.{first_of_each, HasEachKeyOnce}

-- ---- filters

filter_same : {X : Type 0} (p r : X → Bool) → ((x : X) → p x ≡ r x) → (xs : List X) → filter p xs ≡ filter r xs
filter_same p r h [] = refl
filter_same p r h (x ∷ xs) = ap (λ b. cond b (x ∷ filter p xs) (filter p xs)) (h x) ∙ ap (λ l. cond (r x) (x ∷ l) l) (filter_same p r h xs)

filter_all : {X : Type 0} (xs : List X) → filter (λ x. true) xs ≡ xs
filter_all [] = refl
filter_all (x ∷ xs) = ap (λ l. x ∷ l) (filter_all xs)

filter_twice : {X : Type 0} (p r : X → Bool) (xs : List X) → filter p (filter r xs) ≡ filter (λ x. r x && p x) xs
filter_twice p r [] = refl
filter_twice p r (x ∷ xs) = by (r x) (p x) (filter_twice p r xs)
  where
    by : (b c : Bool) → filter p (filter r xs) ≡ filter (λ x. r x && p x) xs → filter p (cond b (x ∷ filter r xs) (filter r xs)) ≡ cond (b && p x) (x ∷ filter (λ x. r x && p x) xs) (filter (λ x. r x && p x) xs)
    by true c e = ap (λ l. cond (p x) (x ∷ l) l) e
    by false c e = e

lookup_append : {K V : Type 0} (test : K → Bool) (es fs : List (K × V)) → lookup test (es ++ fs) ≡ option_or (lookup test es) (lookup test fs)
lookup_append test [] fs = refl
lookup_append test (e ∷ es) fs = by (test e.0) (lookup_append test es fs)
  where
    by : (b : Bool) → lookup test (es ++ fs) ≡ option_or (lookup test es) (lookup test fs) → cond b (Some e.1) (lookup test (es ++ fs)) ≡ option_or (cond b (Some e.1) (lookup test es)) (lookup test fs)
    by true h = refl
    by false h = h

-- ---- keys

module _ {K : Type 0} {eq : K → K → Bool} (laws : IsEquivalence eq) where
  -- no key of the list is equal to q
  lacks : List K → K → Bool
  lacks ks q = list_all (λ k. not (eq q k)) ks

  -- two keys that are equal are lacked alike
  lacked_alike : (k q : K) → eq k q ≡ true → (ks : List K) → lacks ks k ≡ lacks ks q
  unfolding lacks
  lacked_alike k q e [] = refl
  lacked_alike k q e (y ∷ ks) = ap (λ b. not b && list_all (λ y. not (eq k y)) ks) (laws.congr k q y e) ∙ ap (λ b. not (eq q y) && b) (lacked_alike k q e ks)

  -- the keys that are new after those of `done`
  behind : List K → List K → List K
  behind done ks = done ++ filter (lacks done) ks

  -- one key more, before others none of which is equal to it
  one_more : (k : K) (done ks : List K) → behind (cond (lacks done k) (done ++ (k ∷ [])) done) ks ≡ behind done (k ∷ filter (λ q. not (eq q k)) ks)
  unfolding behind lacks
  one_more k done ks = by (lacks done k) refl
    where
      with_last : (q : K) → lacks (done ++ (k ∷ [])) q ≡ not (eq q k) && lacks done q
      with_last q = list_all-append (λ y. not (eq q y)) done (k ∷ []) ∙ swapped (list_all (λ y. not (eq q y)) done) (not (eq q k))
        where
          swapped : (a b : Bool) → a && (b && true) ≡ b && a
          swapped true true = refl
          swapped true false = refl
          swapped false true = refl
          swapped false false = refl

      known : lacks done k ≡ false → (q : K) → not (eq q k) && lacks done q ≡ lacks done q
      known i q = cases (eq q k) refl
        where
          cases : (b : Bool) → eq q k ≡ b → not b && lacks done q ≡ lacks done q
          cases true e = sym (lacked_alike q k e done ∙ i)
          cases false e = refl

      by : (b : Bool) → lacks done k ≡ b → (cond b (done ++ (k ∷ [])) done) ++ filter (lacks (cond b (done ++ (k ∷ [])) done)) ks ≡ done ++ cond b (k ∷ filter (lacks done) (filter (λ q. not (eq q k)) ks)) (filter (lacks done) (filter (λ q. not (eq q k)) ks))
      by true i =
          append_assoc done (k ∷ []) (filter (lacks (done ++ (k ∷ []))) ks)
          ∙ ap (λ l. done ++ (k ∷ l)) (filter_same (lacks (done ++ (k ∷ []))) (λ q. not (eq q k) && lacks done q) with_last ks ∙ sym (filter_twice (lacks done) (λ q. not (eq q k)) ks))
      by false i = ap (λ l. done ++ l) (sym (filter_twice (lacks done) (λ q. not (eq q k)) ks ∙ filter_same (λ q. not (eq q k) && lacks done q) (lacks done) (known i) ks))

module _ {K V : Type 0} {eq : K → K → Bool} (laws : IsEquivalence eq) where
  inserted_keys : (k : K) (v : V) (es : List (K × V)) → keys_of (insert_entry eq es k v) ≡ cond (lacks laws (keys_of es) k) (keys_of es ++ (k ∷ [])) (keys_of es)
  unfolding lacks
  inserted_keys k v [] = refl
  inserted_keys k v (e ∷ es) = by (eq k e.0) (lacks laws (keys_of es) k) (inserted_keys k v es)
    where
      by : (b c : Bool) → keys_of (insert_entry eq es k v) ≡ cond c (keys_of es ++ (k ∷ [])) (keys_of es) → keys_of (if b then (e.0, v) ∷ es else e ∷ insert_entry eq es k v) ≡ cond (not b && c) (e.0 ∷ (keys_of es ++ (k ∷ []))) (e.0 ∷ keys_of es)
      by true c h = refl
      by false true h = ap (λ l. e.0 ∷ l) h
      by false false h = ap (λ l. e.0 ∷ l) h

  all_keys : (done es : List (K × V)) → keys_of (insert_all eq done es) ≡ behind laws (keys_of done) (first_of_each eq (keys_of es))
  unfolding behind
  all_keys done [] = nothing (keys_of done)
    where
      nothing : (ks : List K) → ks ≡ behind laws ks []
      nothing ks = sym (append-nil ks)
  all_keys done (e ∷ es) =
      all_keys (insert_entry eq done e.0 e.1) es
      ∙ ap (λ ks. behind laws ks (first_of_each eq (keys_of es))) (inserted_keys e.0 e.1 done)
      ∙ one_more laws e.0 (keys_of done) (first_of_each eq (keys_of es))

  -- ---- values

  inserted_value : (q k : K) (v : V) (es : List (K × V)) → lookup (eq q) (insert_entry eq es k v) ≡ cond (eq q k) (Some v) (lookup (eq q) es)
  inserted_value q k v [] = refl
  inserted_value q k v (e ∷ es) = by (eq k e.0) refl (eq q e.0) refl (eq q k) refl (inserted_value q k v es)
    where
      by : (b : Bool) → eq k e.0 ≡ b → (c : Bool) → eq q e.0 ≡ c → (d : Bool) → eq q k ≡ d → lookup (eq q) (insert_entry eq es k v) ≡ cond (eq q k) (Some v) (lookup (eq q) es)
          → lookup (eq q) (if b then (e.0, v) ∷ es else e ∷ insert_entry eq es k v) ≡ cond d (Some v) (cond c (Some e.1) (lookup (eq q) es))
      by true i c f true g h = ap (λ t. cond t (Some v) (lookup (eq q) es)) (sym (laws.congr k q e.0 (laws.symm k q ∙ g)) ∙ i)
      by true i c f false g h =
          let z : eq q e.0 ≡ false = laws.symm q e.0 ∙ sym (laws.congr k e.0 q i) ∙ laws.symm k q ∙ g in
          ap (λ t. cond t (Some v) (lookup (eq q) es)) z ∙ ap (λ t. cond t (Some e.1) (lookup (eq q) es)) (sym z ∙ f)
      by false i true f true g h = absurd (true≢false (sym f ∙ laws.congr q k e.0 g ∙ i))
      by false i true f false g h = ap (λ t. cond t (Some e.1) (lookup (eq q) (insert_entry eq es k v))) f
      by false i false f d g h = ap (λ t. cond t (Some e.1) (lookup (eq q) (insert_entry eq es k v))) f ∙ h ∙ ap (λ t. cond t (Some v) (lookup (eq q) es)) g

  all_values : (q : K) (done es : List (K × V)) → lookup (eq q) (insert_all eq done es) ≡ option_or (lookup (eq q) (reverse es)) (lookup (eq q) done)
  all_values q done [] = refl
  all_values q done (e ∷ es) =
      all_values q (insert_entry eq done e.0 e.1) es
      ∙ ap (λ o. option_or (lookup (eq q) (reverse es)) o) (inserted_value q e.0 e.1 done)
      ∙ regrouped (lookup (eq q) (reverse es)) (eq q e.0) (lookup (eq q) done)
      ∙ sym (ap (λ o. option_or o (lookup (eq q) done)) (ap (lookup (eq q)) (reverse_onto es e []) ∙ lookup_append (eq q) (reverse es) (e ∷ [])))
    where
      regrouped : (o : Option V) (b : Bool) (p : Option V) → option_or o (cond b (Some e.1) p) ≡ option_or (option_or o (cond b (Some e.1) None)) p
      regrouped None true p = refl
      regrouped None false p = refl
      regrouped (Some v) b p = refl

  or_none : (o : Option V) → option_or o None ≡ o
  or_none None = refl
  or_none (Some v) = refl

  pub each_key_once : (read : List (K × V)) → HasEachKeyOnce eq read (insert_all eq [] read)
  unfolding behind lacks
  each_key_once read = record {
    keys = all_keys [] read ∙ all_new (first_of_each eq (keys_of read));
    values = λ q. all_values q [] read ∙ or_none (lookup (eq q) (reverse read));
  }
    where
      all_new : (ks : List K) → behind laws [] ks ≡ ks
      all_new ks = filter_all ks
