-- The lines of a list of bytes, and the output that answers them.
use Rattle.std.specs.Prelude.{◌≡◌, ℕ, ◌==◌, cond, codes, List, [], ◌∷◌, ◌++◌, length, Result, OnOk}
use Rattle.std.specs.List.{All, AllZip, flat_map}
use Rattle.borsh_io.specs.Lines.{IsLine}
use Rattle.borsh_walks.specs.Counts.{add_saturating}

-- one line that has an error's text
pub record IsErrorLine (out : List ℕ) : Type 0 where
  pub text : List ℕ
  pub is : out ≡ codes "error " ++ text
  pub line : IsLine text

-- each of these with a line feed behind it
abbrev pub with_feeds : List (List ℕ) → List ℕ
with_feeds lines = flat_map (λ line. line ++ 10 ∷ []) lines

-- a byte goes to the front of the first line; where there is no line, these are the lines
abbrev pub onto_first : List (List ℕ) → ℕ → List (List ℕ) → List (List ℕ)
onto_first otherwise b [] = otherwise
onto_first otherwise b (line ∷ lines) = (b ∷ line) ∷ lines

-- the lines, each ended by a line feed; the last one may lack it where it is not empty
abbrev pub lines_of : List ℕ → List (List ℕ)
lines_of [] = []
lines_of (b ∷ xs) = cond (b == 10) ([] ∷ lines_of xs) (onto_first ((b ∷ []) ∷ []) b (lines_of xs))

-- the lines whose line feed is there
abbrev pub ended_lines : List ℕ → List (List ℕ)
ended_lines [] = []
ended_lines (b ∷ xs) = cond (b == 10) ([] ∷ ended_lines xs) (onto_first [] b (ended_lines xs))

-- for each line an answer without line feeds and one line feed, and nothing else
pub record OutputOf (answers : List ℕ → List ℕ → Type 0) (lines : List (List ℕ)) (out : List ℕ) : Type 0 where
  pub outs : List (List ℕ)
  pub each : AllZip answers lines outs
  pub whole : All IsLine outs
  pub joined : out ≡ with_feeds outs

-- of the bytes `taken`, `lines` are the lines whose line feed is there, `out` has their answers, and `line` is what comes behind
pub record Answered (answers : List ℕ → List ℕ → Type 0) (taken : List ℕ) (lines : List (List ℕ)) (line out : List ℕ) : Type 0 where
  pub joined : taken ≡ with_feeds lines ++ line
  pub whole : All IsLine lines
  pub unended : IsLine line
  pub output : OutputOf answers lines out

-- where `line` is what came behind the last line feed, `chunk` ends `lines`, whose answers are `added`, and leaves `after` as the next one's beginning
pub record Continues (answers : List ℕ → List ℕ → Type 0) (line chunk after : List ℕ) (lines : List (List ℕ)) (added : List ℕ) : Type 0 where
  pub go : (taken : List ℕ) (before : List (List ℕ)) (out : List ℕ) → Answered answers taken before line out → Answered answers (taken ++ chunk) (before ++ lines) after (out ++ added)

-- an answer to the line and a line feed were appended
pub record Appends (answers : List ℕ → List ℕ → Type 0) (line old new : List ℕ) : Type 0 where
  pub reply : List ℕ
  pub answers_it : answers line reply
  pub whole : IsLine reply
  pub joined : new ≡ old ++ (reply ++ 10 ∷ [])

-- the lines that end in a chunk were answered; if an allocation failed, those that end in a beginning of it
pub record AnswersChunk {E : Type 0} (answers : List ℕ → List ℕ → Type 0) (chunk before after old new : List ℕ) (old_count new_count : ℕ) (result : Result (Unit {0}) E) : Type 0 where
  -- the beginning of the chunk whose lines were answered
  pub front : List ℕ
  -- the rest of the chunk
  pub rest : List ℕ
  pub split : chunk ≡ front ++ rest
  -- after a success there is no rest
  pub complete : OnOk result (rest ≡ [])
  -- the lines that were answered
  pub lines : List (List ℕ)
  -- their answers
  pub added : List ℕ
  pub continues : Continues answers before front after lines added
  -- the answers were appended
  pub appended : new ≡ old ++ added
  -- the lines were counted
  pub counted : new_count ≡ add_saturating old_count (length lines)
