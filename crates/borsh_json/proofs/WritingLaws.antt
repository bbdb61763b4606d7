-- Steps of the writer's loop.
use Rattle.std.proofs.Common.{◌≡◌, ℕ, suc, ◌+◌, ◌≤◌, List, [], ◌∷◌, ◌++◌, length, Option, Some, refl, sym, ◌∙◌, ap, subst, arith, append_assoc, append-nil}
use Rattle.json.specs.{Token.{Token}, Json.{Json, item, member, document, if_last, value, max_depth}, Lex.{tokens}, Print.{print}, Tree.{json_tokens, depth, HasNumbers}}
use Rattle.json.proofs.{Printed.Tokens.{tokens-print}, Printed.Trees.{document-print, ArePrintable-json_tokens}}
use Rattle.std.specs.{BTreeMap.{BTreeMap}, Prelude.{String, option_and_then}}
use Rattle.borsh_walks.specs.{Container.{Member}, Definitions.{definitions_in}, declared.definition.Definition.{Definition}}
use Rattle.borsh_json.specs.{declared.output.Output.{Output}, Forms.{Form, forms_in}, Frames.{Wanted}, InOrder.{IsEach, TextRepresents, IsRepresented}, Represents.{none_left}, Table.{Keys, Part, key_json}, Writes.{Rest, items_rest, members_rest, value_rest, entries_rest, IsAbove, MayFollow, MayFollowAll, MayFollowFirst, IsWhole, Begins, WritesJson}, Leaves.{long_of, AreWritten}, Printed.{HasQuotedNumbers, QuotesLong}, declared.output.LongNumbers.{LongNumbers}, declared.output.LongNumbers.TheVariants.{Quoted}}
use Rattle.borsh_walks.proofs.Forms.{shapes_are}
use Rattle.borsh_json.proofs.{OpeningLaws.{some_one}, StepLaws.{item_back}}

-- ---- at the end
-- what was written is the text of the JSON
pub json_read : (text : List ℕ) (j : Json) → tokens text ≡ json_tokens j → HasNumbers j → depth j ≤ 128 → document text ≡ Some j
json_read text j e n d =
    let s : tokens text ≡ tokens (print (json_tokens j)) = e ∙ sym (tokens-print (json_tokens j) (ArePrintable-json_tokens j n)) in
    ap (λ ts. option_and_then (λ p. if_last p.0 p.1) (value max_depth ts)) s ∙ document-print j n d

module _ {A : Type 0} (m : BTreeMap (String A) Definition) (root bytes : List ℕ) (out : Output) (w : WritesJson (forms_in m) root bytes out) (is : Member (definitions_in m) root bytes) where
  -- the text that was written
  pub text_represents : (text : List ℕ) → tokens text ≡ json_tokens w.0 → TextRepresents (forms_in m) root text bytes
  text_represents text e = (w.0, json_read text w.0 e w.2 w.3, w.4.0, subst (λ C. Member C root bytes) (sym (shapes_are m)) is, w.5 w.0 w.4.0)

  -- where numbers of 64 bits are strings, so are those of any text of the same JSON
  pub quoted_numbers : (long : LongNumbers) (text : List ℕ) → long_of out ≡ long → long ≡ Quoted → document text ≡ Some w.0 → HasQuotedNumbers (forms_in m) root text
  quoted_numbers long text e q d j f = subst (λ (j : Json). IsEach (forms_in m) (QuotesLong (forms_in m)) root j) (some_one j w.0 (sym f ∙ d)) (w.4.1 (e ∙ q)).0

  -- or that could be
  pub is_represented : IsRepresented (forms_in m) root bytes
  is_represented = let ts = json_tokens w.0 in (print ts, text_represents (print ts) (tokens-print ts (ArePrintable-json_tokens w.0 w.2)))

module _ (F : List ℕ → Option Form) {long : LongNumbers} (root : List ℕ) where
  -- in front of the root nothing was written
  pub begins : Begins F long root (MayFollowAll (value_rest (root ∷ []) ∷ [])) [] []
  begins ts ps bs f h =
      let m = f.6 in
      let z = m.7 in
      let e : ts ≡ json_tokens m.0 = f.8 ∙ ap (λ u. f.1 ++ u) f.7.0 ∙ append-nil f.1 ∙ m.5 ∙ ap (λ t. json_tokens m.0 ++ t) z.0 ∙ append-nil (json_tokens m.0) in
      let p : ps ≡ (root, m.0) ∷ [] = f.9 ∙ ap (λ b. f.3 ++ b) f.7.1 ∙ append-nil f.3 ∙ m.6 ∙ ap (λ l. (root, m.0) ∷ l) z.1 in
      let n : depth m.0 ≤ 128 = (let d = m.4 in let r = f.5 in omega (arith, d, r)) in
      (m.0, e, m.3, n, subst (λ l. AreWritten F long l bs) p h)

  -- what may follow now, behind these tokens and bytes, might follow before
  pub goes_on : (P Q : List Token → List Part → Type 0) (written : List Token) (done : List ℕ) (front : List Token) (own : List ℕ)
      → ((ts : List Token) (ps : List Part) (bs : List ℕ) → Q ts ps → AreWritten F long ps bs → (qs : List Part) × P (front ++ ts) qs × AreWritten F long qs (own ++ bs))
      → Begins F long root P written done → Begins F long root Q (written ++ front) (done ++ own)
  goes_on P Q written done front own step begun ts ps bs q h =
      let s = step ts ps bs q h in
      let w = begun (front ++ ts) s.0 (own ++ bs) s.1 s.2 in
      (w.0, append_assoc written front ts ∙ w.1, w.2, w.3, subst (λ l. AreWritten F long ((root, w.0) ∷ []) l) (sym (append_assoc done own bs)) w.4)

  -- at the end nothing follows
  pub ends : (written : List Token) (done : List ℕ) → Begins F long root (MayFollowAll []) written done → IsWhole F long root written done
  ends written done begun =
      let w = begun [] [] [] (refl, refl) (none_left, λ e. tt) in
      (w.0, sym (append-nil written) ∙ w.1, w.2, w.3, subst (λ l. AreWritten F long ((root, w.0) ∷ []) l) (append-nil done) w.4)

-- ---- the first of what is left
-- its tokens, behind those of its key, and then those of the others, are tokens of all
abbrev pub IsTaken : Rest → List ℕ → List Token → Rest → Type 0
IsTaken r x key s = (n : ℕ) (j : Json) (ts : List Token) (qs : List Part) → HasNumbers j → depth j ≤ n → MayFollow s n ts qs → MayFollow r n (key ++ (json_tokens j ++ ts)) ((x, j) ∷ qs)

pub item_taken : (x : List ℕ) (xs : List (List ℕ)) → IsTaken (items_rest (x ∷ xs)) x [] (items_rest xs)
item_taken x xs n j ts qs nj dj m = (item j m.0, ap (λ ts. json_tokens j ++ ts) m.1, item_back x xs j m.0 qs m.2, (nj, m.3), (let d = m.4 in omega (arith, d, dj)))

pub member_taken : (w : Wanted) (ws : List Wanted) → IsTaken (members_rest (w ∷ ws)) w.1 (Token.key w.0 ∷ []) (members_rest ws)
member_taken w ws n j ts qs nj dj m = (member w.0 j m.0, ap (λ ts. Token.key w.0 ∷ (json_tokens j ++ ts)) m.1, (j, m.0, qs, refl, refl, m.2), (nj, m.3), (let d = m.4 in omega (arith, d, dj)))

pub value_taken : (x : List ℕ) (xs : List (List ℕ)) → IsTaken (value_rest (x ∷ xs)) x [] (value_rest xs)
value_taken x xs n j ts qs nj dj m = (j, ts, qs, nj, dj, refl, refl, m)

-- an entry: its key is a part too
pub entry_taken : (keys : Keys) (k v e : List ℕ) (m : ℕ) (last : Option (List ℕ)) (s : List ℕ) → IsAbove keys last s → (n : ℕ) (j : Json) (ts : List Token) (qs : List Part) → HasNumbers j → depth j ≤ n → MayFollow (entries_rest keys k v e m (Some s)) n ts qs → MayFollow (entries_rest keys k v e (suc m) last) n (Token.key s ∷ (json_tokens j ++ ts)) ((k, key_json keys s) ∷ (v, j) ∷ qs)
entry_taken keys k v e m last s a n j ts qs nj dj f =
    (member s j f.0, ap (λ ts. Token.key s ∷ (json_tokens j ++ ts)) f.1, ap suc f.2, (a, f.3), ap (λ qs. (k, key_json keys s) ∷ (v, j) ∷ qs) f.4, (nj, f.5), (let d = f.6 in omega (arith, d, dj)))

module _ (F : List ℕ → Option Form) {long : LongNumbers} (root : List ℕ) where
  -- a part comes next, whose key was written, and says these bytes as a part of its own; then its value is wanted
  pub key_written : (r s : Rest) (around : List Rest) (x : List ℕ) (key : List Token) (keys : List Part) (own : List ℕ) (n : ℕ) (written : List Token) (done : List ℕ)
      → n + length around ≡ 128
      → ((i : ℕ) (j : Json) (ts : List Token) (qs : List Part) → HasNumbers j → depth j ≤ i → MayFollow s i ts qs → MayFollow r i (key ++ (json_tokens j ++ ts)) (keys ++ (x, j) ∷ qs))
      → ((ps : List Part) (bs : List ℕ) → AreWritten F long ps bs → AreWritten F long (keys ++ ps) (own ++ bs))
      → Begins F long root (MayFollowAll (r ∷ around)) written done → Begins F long root (MayFollowFirst x n (s ∷ around)) (written ++ key) (done ++ own)
  key_written r s around x key keys own n written done room taken said =
      goes_on F root (MayFollowAll (r ∷ around)) (MayFollowFirst x n (s ∷ around)) written done key own (λ ts ps bs q h.
      let a = q.5 in
      let jt = json_tokens q.0 in
      let i : depth q.0 ≤ a.0 = (let d = q.4 in let r = a.5 in omega (arith, d, r, room)) in
      let t : key ++ ts ≡ (key ++ (jt ++ a.1)) ++ a.2 = ap (λ l. key ++ l) (q.6 ∙ ap (λ u. jt ++ u) a.8 ∙ sym (append_assoc jt a.1 a.2)) ∙ sym (append_assoc key (jt ++ a.1) a.2) in
      let p : keys ++ ps ≡ (keys ++ (x, q.0) ∷ a.3) ++ a.4 = ap (λ l. keys ++ l) (q.7 ∙ ap (λ b. (x, q.0) ∷ b) a.9) ∙ sym (append_assoc keys ((x, q.0) ∷ a.3) a.4) in
      (keys ++ ps, (a.0, key ++ (jt ++ a.1), a.2, keys ++ (x, q.0) ∷ a.3, a.4, a.5, taken a.0 q.0 a.1 a.3 q.3 i a.6, a.7, t, p), said ps bs h))

  -- a value was written whole
  pub leaf_written : (rs : List Rest) (x : List ℕ) (n : ℕ) (j : Json) (own : List ℕ) (written : List Token) (done : List ℕ)
      → HasNumbers j → depth j ≤ n → ((ps : List Part) (bs : List ℕ) → AreWritten F long ps bs → AreWritten F long ((x, j) ∷ ps) (own ++ bs))
      → Begins F long root (MayFollowFirst x n rs) written done → Begins F long root (MayFollowAll rs) (written ++ json_tokens j) (done ++ own)
  leaf_written rs x n j own written done nj dj said =
      goes_on F root (MayFollowFirst x n rs) (MayFollowAll rs) written done (json_tokens j) own (λ ts ps bs q h. ((x, j) ∷ ps, (j, ts, ps, nj, dj, q, refl, refl), said ps bs h))

  -- or its beginning
  pub front_written : (r : Rest) (rs : List Rest) (x : List ℕ) (n : ℕ) (front : List Token) (own : List ℕ) (written : List Token) (done : List ℕ)
      → n + length rs ≡ suc 128
      → ((i : ℕ) (ts : List Token) (qs ps : List Part) (bs : List ℕ) → MayFollow r i ts qs → AreWritten F long (qs ++ ps) bs → (j : Json) × (json_tokens j ≡ front ++ ts) × HasNumbers j × (depth j ≤ suc i) × AreWritten F long ((x, j) ∷ ps) (own ++ bs))
      → Begins F long root (MayFollowFirst x n rs) written done → Begins F long root (MayFollowAll (r ∷ rs)) (written ++ front) (done ++ own)
  front_written r rs x n front own written done room whole =
      goes_on F root (MayFollowFirst x n rs) (MayFollowAll (r ∷ rs)) written done front own (λ ts ps bs q h.
      let w = whole q.0 q.1 q.3 q.4 bs q.6 (subst (λ l. AreWritten F long l bs) q.9 h) in
      let d : depth w.0 ≤ n = (let a = w.3 in let b = q.5 in omega (arith, a, b, room)) in
      let t : front ++ ts ≡ json_tokens w.0 ++ q.2 = ap (λ l. front ++ l) q.8 ∙ sym (append_assoc front q.1 q.2) ∙ ap (λ l. l ++ q.2) (sym w.1) in
      ((x, w.0) ∷ q.4, (w.0, q.2, q.4, w.2, d, q.7, t, refl), w.4))

  -- a place has ended, with its brackets
  pub end_written : (r : Rest) (rs : List Rest) (n : ℕ) (brackets : List Token) (written : List Token) (done : List ℕ)
      → n + length rs ≡ 128 → MayFollow r n brackets []
      → Begins F long root (MayFollowAll (r ∷ rs)) written done → Begins F long root (MayFollowAll rs) (written ++ brackets) (done ++ [])
  end_written r rs n brackets written done room last =
      goes_on F root (MayFollowAll (r ∷ rs)) (MayFollowAll rs) written done brackets [] (λ ts ps bs q h. (ps, (n, brackets, ts, [], ps, room, last, q, refl, refl), h))
