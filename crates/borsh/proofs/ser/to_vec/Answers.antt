use Rattle.std.proofs.Common.{rules, ◌≡◌, ◌∙◌, ◌≤◌, Some, ap, sym, arith}
use Rattle.std.proofs.lemmas.List.{take-append-le, take-take}
use Rattle.borsh.proofs.Signing.{encoded}
use Rattle.borsh.proofs.ser.to_vec.Goals as goal

pub returns : goal.returns
returns g c =
    let is : g.T.BorshType.codec.encoding c.args.value.now ≡ Some c.serialize.new.writer.items = search rules in
    encoded g.met.T.BorshType.lawful c.args.value.now c.serialize.new.writer is

pub returns-in-Some : goal.returns-in-Some
returns-in-Some g c =
    let n = c.in-Some.n in
    let fits = c.in-Some.ensures.put.0 in
    let within : n ≤ c.resize.new.self.len = omega (arith, fits, c.in-Some.ensures.same, c.as_mut_slice.ensures.len) in
    let front = take-take n c.resize.new.self.len _ within ∙ take-append-le n c.put.new._room _ fits in
    encoded g.met.T.BorshType.lawful c.args.value.now c.truncate.new.self (c.in-Some.ensures.put.1 ∙ ap Some (sym (c.truncate.ensures.items ∙ front)))
