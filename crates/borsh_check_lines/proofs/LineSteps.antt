-- How bytes that are taken turn into lines and answers.
use Rattle.std.proofs.Common.{◌≡◌, ◌≢◌, ℕ, ◌+◌, ◌<◌, ◌≤◌, ◌==◌, cond, Bool, false, List, [], ◌∷◌, ◌++◌, length, take, drop, get_or, refl, sym, ap, ◌∙◌, subst, arith, append_assoc, append-nil, take-append-drop, ⊎_elim, true≢false, eq-eqb, length-append, Result, Ok, Err, IsErr, IsOk, OnOk, zero, suc, add-zero, zero-add}
use Rattle.std.proofs.Math.Nat.{eq-zero-or-pos}
use Rattle.std.specs.List.{All}
use Rattle.std.proofs.lemmas.List.Elements.{All-nil, All-head, All-tail, All-push, AllZip-push}
use Rattle.std.proofs.lemmas.Grind.{flat_map-append, common_steps}
use Rattle.std.proofs.lemmas.Bool.{ne_eqb}
use Rattle.std.proofs.lemmas.List.{take_more, map-append}
use Rattle.borsh_check_lines.specs.Runs.{spaced}
use Rattle.borsh_io.specs.Lines.{IsLine}
use Rattle.borsh_walks.specs.Counts.{add_saturating}
use Rattle.borsh_check_lines.specs.Lines.{with_feeds, onto_first, lines_of, ended_lines, OutputOf, Answered, Continues, Appends, AnswersChunk}

-- a test that a length is 0, which failed
pub not_empty : (b : Bool) (n : ℕ) → b ≡ n == 0 → b ≡ false → 0 < n
not_empty b n e f = ⊎_elim (λ (z : n ≡ 0). absurd (true≢false (sym (eq-eqb n 0 z) ∙ sym e ∙ f))) (λ (h : 0 < n). h) (eq-zero-or-pos n)

-- what holds after a success, after one
pub on_success : {E : Type 0} {P : Type 0} (r : Result (Unit {0}) E) → IsOk r → OnOk r P → P
on_success (Ok x) h p = p
on_success (Err e) h p = absurd (true≢false (sym h))

pub no_line : IsLine []
no_line = All-nil (λ b. b ≢ 10)

pub with_feeds-push : (lines : List (List ℕ)) (line : List ℕ) → with_feeds (lines ++ line ∷ []) ≡ with_feeds lines ++ (line ++ 10 ∷ [])
with_feeds-push lines line = flat_map-append (λ l. l ++ 10 ∷ []) lines (line ∷ []) ∙ ap (λ t. with_feeds lines ++ t) (append-nil (line ++ 10 ∷ []))

pub lines_of-first : (line rest : List ℕ) → IsLine line → lines_of (line ++ 10 ∷ rest) ≡ line ∷ lines_of rest
lines_of-first [] rest h = refl
lines_of-first (b ∷ line) rest h =
    ap (λ t. cond t ([] ∷ lines_of (line ++ 10 ∷ rest)) (onto_first ((b ∷ []) ∷ []) b (lines_of (line ++ 10 ∷ rest)))) (ne_eqb b 10 (All-head (λ b. b ≢ 10) b line h))
    ∙ ap (onto_first ((b ∷ []) ∷ []) b) (lines_of-first line rest (All-tail (λ b. b ≢ 10) b line h))

pub ended_lines-first : (line rest : List ℕ) → IsLine line → ended_lines (line ++ 10 ∷ rest) ≡ line ∷ ended_lines rest
ended_lines-first [] rest h = refl
ended_lines-first (b ∷ line) rest h =
    ap (λ t. cond t ([] ∷ ended_lines (line ++ 10 ∷ rest)) (onto_first [] b (ended_lines (line ++ 10 ∷ rest)))) (ne_eqb b 10 (All-head (λ b. b ≢ 10) b line h))
    ∙ ap (onto_first [] b) (ended_lines-first line rest (All-tail (λ b. b ≢ 10) b line h))

-- a line without its line feed
pub lines_of-last : (b : ℕ) (line : List ℕ) → IsLine (b ∷ line) → lines_of (b ∷ line) ≡ (b ∷ line) ∷ []
lines_of-last b [] h = ap (λ t. cond t ([] ∷ []) ((b ∷ []) ∷ [])) (ne_eqb b 10 (All-head (λ b. b ≢ 10) b [] h))
lines_of-last b (d ∷ line) h =
    ap (λ t. cond t ([] ∷ lines_of (d ∷ line)) (onto_first ((b ∷ []) ∷ []) b (lines_of (d ∷ line)))) (ne_eqb b 10 (All-head (λ b. b ≢ 10) b (d ∷ line) h))
    ∙ ap (onto_first ((b ∷ []) ∷ []) b) (lines_of-last d line (All-tail (λ b. b ≢ 10) b (d ∷ line) h))

pub ended_lines-last : (line : List ℕ) → IsLine line → ended_lines line ≡ []
ended_lines-last [] h = refl
ended_lines-last (b ∷ line) h =
    ap (λ t. cond t ([] ∷ ended_lines line) (onto_first [] b (ended_lines line))) (ne_eqb b 10 (All-head (λ b. b ≢ 10) b line h))
    ∙ ap (onto_first [] b) (ended_lines-last line (All-tail (λ b. b ≢ 10) b line h))

pub lines_of-fed : (lines : List (List ℕ)) (rest : List ℕ) → All IsLine lines → lines_of (with_feeds lines ++ rest) ≡ lines ++ lines_of rest
lines_of-fed [] rest h = refl
lines_of-fed (line ∷ lines) rest h =
    ap lines_of (append_assoc (line ++ 10 ∷ []) (with_feeds lines) rest ∙ append_assoc line (10 ∷ []) (with_feeds lines ++ rest))
    ∙ lines_of-first line (with_feeds lines ++ rest) (All-head IsLine line lines h)
    ∙ ap (λ t. line ∷ t) (lines_of-fed lines rest (All-tail IsLine line lines h))

pub ended_lines-fed : (lines : List (List ℕ)) (rest : List ℕ) → All IsLine lines → ended_lines (with_feeds lines ++ rest) ≡ lines ++ ended_lines rest
ended_lines-fed [] rest h = refl
ended_lines-fed (line ∷ lines) rest h =
    ap ended_lines (append_assoc (line ++ 10 ∷ []) (with_feeds lines) rest ∙ append_assoc line (10 ∷ []) (with_feeds lines ++ rest))
    ∙ ended_lines-first line (with_feeds lines ++ rest) (All-head IsLine line lines h)
    ∙ ap (λ t. line ∷ t) (ended_lines-fed lines rest (All-tail IsLine line lines h))

-- a count of lines is raised by one more
raised-more : (m k : ℕ) → add_saturating (add_saturating m k) 1 ≡ add_saturating m (suc k)
raised-more m zero = omega arith
raised-more m (suc k) = omega arith

raised-again : (m k l : ℕ) → add_saturating (add_saturating m k) l ≡ add_saturating m (k + l)
raised-again m k zero = ap (add_saturating m) (sym (add-zero k))
raised-again m zero (suc l) = ap (add_saturating m) (sym (zero-add (suc l)))
raised-again m (suc k) (suc l) =
    let sum : suc (suc k + l) ≡ suc k + suc l = omega arith in
    let more : add_saturating (add_saturating m (suc k)) (suc l) ≡ add_saturating m (suc (suc k + l)) = omega arith in
    more ∙ ap (add_saturating m) sum

pub raised-once : (m n l : ℕ) (lines : List (List ℕ)) (line : List ℕ) → n ≡ add_saturating m (length lines) → l ≡ add_saturating n 1 → l ≡ add_saturating m (length (lines ++ line ∷ []))
raised-once m n l lines line h e =
    let one : suc (length lines) ≡ length (lines ++ line ∷ []) = omega (arith, length-append lines (line ∷ [])) in
    e ∙ ap (λ c. add_saturating c 1) h ∙ raised-more m (length lines) ∙ ap (add_saturating m) one

pub raised-on : (m n l : ℕ) (lines more : List (List ℕ)) → n ≡ add_saturating m (length lines) → l ≡ add_saturating n (length more) → l ≡ add_saturating m (length (lines ++ more))
raised-on m n l lines more h e = e ∙ ap (λ c. add_saturating c (length more)) h ∙ raised-again m (length lines) (length more) ∙ ap (add_saturating m) (sym (length-append lines more))

-- what a front of a chunk has become
pub record ChunkSoFar (answers : List ℕ → List ℕ → Type 0) (front before after old new : List ℕ) (old_count new_count : ℕ) : Type 0 where
  pub lines : List (List ℕ)
  pub added : List ℕ
  pub continues : Continues answers before front after lines added
  pub appended : new ≡ old ++ added
  pub counted : new_count ≡ add_saturating old_count (length lines)

-- the front of a buffer that was filled
front-filled : (n len : ℕ) (buf items : List ℕ) → n ≤ length buf → length buf ≤ len → take n (take len (buf ++ drop (length buf) items)) ≡ take n buf
front-filled n len buf items h fits = grind (arith, common_steps)

module _ {answers : List ℕ → List ℕ → Type 0} where
  pub output-none : OutputOf answers [] []
  output-none = record { outs = []; each = tt; whole = All-nil IsLine; joined = refl }

  pub output-push : {lines : List (List ℕ)} {out line all : List ℕ} → OutputOf answers lines out → Appends answers line out all → OutputOf answers (lines ++ line ∷ []) all
  output-push {lines} {out} {line} {all} p r = record {
    outs = p.outs ++ r.reply ∷ [];
    each = AllZip-push answers lines p.outs line r.reply p.each r.answers_it;
    whole = All-push IsLine p.outs r.reply p.whole r.whole;
    joined = r.joined ∙ ap (λ t. t ++ (r.reply ++ 10 ∷ [])) p.joined ∙ sym (with_feeds-push p.outs r.reply);
  }

  -- what was appended to an end is appended to all of it
  pub appends-after : {line old new : List ℕ} (out : List ℕ) → Appends answers line old new → Appends answers line (out ++ old) (out ++ new)
  appends-after {line} {old} {new} out r = record {
    reply = r.reply;
    answers_it = r.answers_it;
    whole = r.whole;
    joined = ap (λ t. out ++ t) r.joined ∙ sym (append_assoc out old (r.reply ++ 10 ∷ []));
  }

  pub answered-none : Answered answers [] [] [] []
  answered-none = record { joined = refl; whole = All-nil IsLine; unended = no_line; output = output-none }

  pub answered-byte : {taken line out : List ℕ} {lines : List (List ℕ)} (b : ℕ) → b ≢ 10 → Answered answers taken lines line out → Answered answers (taken ++ b ∷ []) lines (line ++ b ∷ []) out
  answered-byte {taken} {line} {out} {lines} b ne p = record {
    joined = ap (λ t. t ++ b ∷ []) p.joined ∙ append_assoc (with_feeds lines) line (b ∷ []);
    whole = p.whole;
    unended = All-push (λ b. b ≢ 10) line b p.unended ne;
    output = p.output;
  }

  pub answered-feed : {taken line out all : List ℕ} {lines : List (List ℕ)} → Appends answers line out all → Answered answers taken lines line out → Answered answers (taken ++ 10 ∷ []) (lines ++ line ∷ []) [] all
  answered-feed {taken} {line} {out} {all} {lines} r p = record {
    joined = ap (λ t. t ++ 10 ∷ []) p.joined ∙ append_assoc (with_feeds lines) line (10 ∷ []) ∙ sym (with_feeds-push lines line) ∙ sym (append-nil _);
    whole = All-push IsLine lines line p.whole p.unended;
    unended = no_line;
    output = output-push p.output r;
  }

  pub continues-none : (line : List ℕ) → Continues answers line [] line [] []
  continues-none line = record { go = λ taken before out p. rw (append-nil taken, append-nil before, append-nil out) p }

  pub continues-byte : {line chunk after added : List ℕ} {lines : List (List ℕ)} (b : ℕ) → b ≢ 10 → Continues answers line chunk after lines added → Continues answers line (chunk ++ b ∷ []) (after ++ b ∷ []) lines added
  continues-byte {line} {chunk} {after} {added} {lines} b ne p = record {
    go = λ taken before out q. subst (λ t. Answered answers t (before ++ lines) (after ++ b ∷ []) (out ++ added)) (append_assoc taken chunk (b ∷ [])) (answered-byte b ne (p.go taken before out q));
  }

  pub continues-feed : {line chunk after added all : List ℕ} {lines : List (List ℕ)} → Appends answers after added all → Continues answers line chunk after lines added → Continues answers line (chunk ++ 10 ∷ []) [] (lines ++ after ∷ []) all
  continues-feed {line} {chunk} {after} {added} {all} {lines} r p = record {
    go = λ taken before out q.
        subst (λ t. Answered answers t (before ++ (lines ++ after ∷ [])) [] (out ++ all)) (append_assoc taken chunk (10 ∷ []))
        (subst (λ t. Answered answers ((taken ++ chunk) ++ 10 ∷ []) t [] (out ++ all)) (append_assoc before lines (after ∷ []))
        (answered-feed (appends-after out r) (p.go taken before out q)));
  }

  -- at the end of the bytes
  pub output-at_end : {taken out : List ℕ} {lines : List (List ℕ)} → Answered answers taken lines [] out → lines_of taken ≡ lines
  output-at_end {taken} {out} {lines} p = ap lines_of p.joined ∙ lines_of-fed lines [] p.whole ∙ append-nil lines

  pub output-at_last : {taken out : List ℕ} {lines : List (List ℕ)} (line : List ℕ) → Answered answers taken lines line out → 0 < length line → lines_of taken ≡ lines ++ line ∷ []
  output-at_last {taken} {out} {lines} [] p h = absurd (omega arith)
  output-at_last {taken} {out} {lines} (b ∷ line) p h = ap lines_of p.joined ∙ lines_of-fed lines (b ∷ line) p.whole ∙ ap (λ t. lines ++ t) (lines_of-last b line p.unended)

  pub ended-are : {taken line out : List ℕ} {lines : List (List ℕ)} → Answered answers taken lines line out → ended_lines taken ≡ lines
  ended-are {taken} {line} {out} {lines} p = ap ended_lines p.joined ∙ ended_lines-fed lines line p.whole ∙ ap (λ t. lines ++ t) (ended_lines-last line p.unended) ∙ append-nil lines

  -- whatever bytes are still to come
  pub first-lines : {taken line out : List ℕ} {lines : List (List ℕ)} (rest : List ℕ) → Answered answers taken lines line out → lines_of (taken ++ rest) ≡ lines ++ lines_of (line ++ rest)
  first-lines {taken} {line} {out} {lines} rest p = ap (λ t. lines_of (t ++ rest)) p.joined ∙ ap lines_of (append_assoc (with_feeds lines) line rest) ∙ lines_of-fed lines (line ++ rest) p.whole

  pub chunk-none : (before out : List ℕ) (count : ℕ) → ChunkSoFar answers [] before before out out count count
  chunk-none before out count = record {
    lines = [];
    added = [];
    continues = continues-none before;
    appended = sym (append-nil out);
    counted = refl;
  }

  -- a turn at a byte of the chunk
  pub chunk-byte : {before after longer old new : List ℕ} {m n : ℕ} (chunk : List ℕ) (i : ℕ) → i < length chunk → get_or chunk i 0 ≢ 10 → longer ≡ after ++ get_or chunk i 0 ∷ [] → ChunkSoFar answers (take i chunk) before after old new m n → ChunkSoFar answers (take (i + 1) chunk) before longer old new m n
  chunk-byte {before} {after} {longer} {old} {new} {m} {n} chunk i h ne e p = record {
    lines = p.lines;
    added = p.added;
    continues = rw (e, take_more chunk i 0 h) (continues-byte (get_or chunk i 0) ne p.continues);
    appended = p.appended;
    counted = p.counted;
  }

  -- a turn at a line feed
  pub chunk-feed : {before after none old new all : List ℕ} {m n k : ℕ} (chunk : List ℕ) (i : ℕ) → i < length chunk → get_or chunk i 0 ≡ 10 → none ≡ [] → Appends answers after new all → k ≡ add_saturating n 1 → ChunkSoFar answers (take i chunk) before after old new m n → ChunkSoFar answers (take (i + 1) chunk) before none old all m k
  chunk-feed {before} {after} {none} {old} {new} {all} {m} {n} {k} chunk i h is z r e p =
      let s : Appends answers after p.added (p.added ++ (r.reply ++ 10 ∷ [])) = record { reply = r.reply; answers_it = r.answers_it; whole = r.whole; joined = refl } in
      record {
        lines = p.lines ++ after ∷ [];
        added = p.added ++ (r.reply ++ 10 ∷ []);
        continues = rw (z, take_more chunk i 0 h, is) (continues-feed s p.continues);
        appended = r.joined ∙ ap (λ t. t ++ (r.reply ++ 10 ∷ [])) p.appended ∙ append_assoc old p.added (r.reply ++ 10 ∷ []);
        counted = raised-once m n k p.lines after p.counted e;
      }

  -- the chunk is done, or stops at a front of it
  pub chunk-done : {E : Type 0} {chunk before after old new : List ℕ} {m n : ℕ} (r : Result (Unit {0}) E) → ChunkSoFar answers chunk before after old new m n → AnswersChunk answers chunk before after old new m n r
  chunk-done {chunk = chunk} (Ok x) p = record { front = chunk; rest = []; split = sym (append-nil chunk); complete = refl; lines = p.lines; added = p.added; continues = p.continues; appended = p.appended; counted = p.counted }
  chunk-done {chunk = chunk} (Err e) p = record { front = chunk; rest = []; split = sym (append-nil chunk); complete = tt; lines = p.lines; added = p.added; continues = p.continues; appended = p.appended; counted = p.counted }

  pub chunk-stops : {E : Type 0} {before after old new : List ℕ} {m n : ℕ} (chunk : List ℕ) (i : ℕ) (r : Result (Unit {0}) E) → IsErr r → ChunkSoFar answers (take i chunk) before after old new m n → AnswersChunk answers chunk before after old new m n r
  chunk-stops chunk i (Ok x) h p = absurd (true≢false (sym h))
  chunk-stops chunk i (Err e) h p = record { front = take i chunk; rest = drop i chunk; split = sym (take-append-drop i chunk); complete = tt; lines = p.lines; added = p.added; continues = p.continues; appended = p.appended; counted = p.counted }

  -- the chunk is the front of a buffer that was filled
  pub chunk-taken : {E : Type 0} {before after new : List ℕ} {m n : ℕ} {r : Result (Unit {0}) E} (k len : ℕ) (buf items seen old : List ℕ) → seen ≡ take len (buf ++ drop (length buf) items) → k ≤ length buf → length buf ≤ len → old ≡ [] → AnswersChunk answers (take k seen) before after old new m n r → AnswersChunk answers (take k buf) before after [] new m n r
  chunk-taken k len buf items seen old value bound fits none p =
      let same : take k seen ≡ take k buf = ap (take k) value ∙ front-filled k len buf items bound fits in
      rw (same, none) at p

pub spaced-more : (text : List ℕ) (i : ℕ) → i < length text → spaced (take (i + 1) text) ≡ spaced (take i text) ++ cond (get_or text i 0 == 10) 32 (get_or text i 0) ∷ []
spaced-more text i h = ap spaced (take_more text i 0 h) ∙ map-append (λ b. cond (b == 10) 32 b) (take i text) (get_or text i 0 ∷ [])

pub spaced-split : (text : List ℕ) (i : ℕ) → i < length text → (spaced (take i text) ++ cond (get_or text i 0 == 10) 32 (get_or text i 0) ∷ []) ++ spaced (drop (i + 1) text) ≡ spaced text
spaced-split text i h =
    ap (λ t. t ++ spaced (drop (i + 1) text)) (sym (spaced-more text i h))
    ∙ sym (map-append (λ b. cond (b == 10) 32 b) (take (i + 1) text) (drop (i + 1) text))
    ∙ ap spaced (take-append-drop (i + 1) text)
