-- The laws of the writers.
use Rattle.std.proofs.Common.{ℕ, List, ◌++◌, length, drop, refl, sym, ap, ◌∙◌, arith, append_assoc, append-nil, length-append, length-drop}
use Rattle.std.proofs.Math.Seq.{drop-drop}
use Rattle.borsh_io.specs.Sink.{WriterModel, WriterLaws, contramap_writer, appending, overwriting}

pub contramap_writer-laws : {V W : Type 0} {w : WriterModel W} (inner : V → W) → WriterLaws W w → WriterLaws V (contramap_writer inner w)
contramap_writer-laws inner laws = record {
  none = λ a. laws.none (inner a);
  more = λ a b c x y p q. laws.more (inner a) (inner b) (inner c) x y p q;
}

pub appending-laws : {W : Type 0} (items : W → List ℕ) → WriterLaws W (appending items)
appending-laws items = record {
  none = λ a. sym (append-nil (items a));
  more = λ a b c x y p q. q ∙ ap (λ l. l ++ y) p ∙ append_assoc (items a) x y;
}

pub overwriting-laws : {W : Type 0} (room : W → List ℕ) → WriterLaws W (overwriting room)
overwriting-laws room = record {
  none = λ a. (omega arith, refl);
  more = λ a b c x y p q. (
    omega (arith, p.0, q.0, length-append x y, ap length p.1, length-drop (length x) (room a)),
    q.1 ∙ ap (drop (length y)) p.1 ∙ drop-drop (length y) (length x) (room a) ∙ ap (λ n. drop n (room a)) (sym (length-append x y)),
  );
}
