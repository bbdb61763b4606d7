-- A list of bytes of which fewer are there than it announces.
use Rattle.std.proofs.Common.{◌≡◌, ℕ, ◌*◌, ◌<◌, ◌≤◌, List, ◌++◌, length, Option, Some, None, inl, ap, arith, length-append}
use Rattle.std.specs.Prelude.{MatchOption}
use Rattle.std.specs.Bool.{⊤}
use Rattle.borsh_io.specs.declared.error.ErrorKind.{ErrorKind}
use Rattle.borsh_io.specs.declared.error.ErrorKind.TheVariants.{InvalidData}
use Rattle.borsh_io.specs.Stream.{ReaderState, HasAtMost}
use Rattle.borsh_codec.specs.Shapes.{unsigned, allocated_array}
use Rattle.borsh_codec.specs.Reading.{NotDecoded}
use Rattle.borsh_codec.proofs.ReadSteps.{took_nothing, refused_here}
use Rattle.borsh_de.proofs.FixedWidth.{unsigned_fixed, length-each}

no_longer : (n : ℕ) (o : Option (List ℕ)) → MatchOption o ⊥ (λ xs. length xs ≤ n) → (front rest : List ℕ) → o ≡ Some (front ++ rest) → length front ≤ n
no_longer n None h front rest e = absurd h
no_longer n (Some xs) h front rest e = let f : xs ≡ front ++ rest = cc in omega (arith, h, ap length f, length-append front rest)

pub denied_few : {n len : ℕ} {s : ReaderState} {kind : ErrorKind} → HasAtMost s n → n < len → kind ≡ InvalidData → NotDecoded (List ℕ) (allocated_array len (unsigned 1)) s s kind
denied_few {n = n} {len = len} {s = s} h l is = record {
  refused = refused_here (inl is) (took_nothing {P = λ _. ⊤} s tt) (λ front rest e w. (let long : length front ≡ length w.0 * 1 = length-each (unsigned_fixed 0) s.strict_order front w.0 w.1.parts in omega (arith, no_longer n s.bytes h front rest e, long, w.1.long, l)));
}
