use Rattle.std.proofs.Common.{rules, of_calls, ◌≡◌, ◌∙◌, length, ap, OnOk, subst}
use Rattle.std.specs.Iterator.Adapters.{map_source}
use Rattle.std.specs.Slice.Iter.{chunks_exact_rest, chunks_exact_size}
use Rattle.borsh_de.specs.FixedWidth.{AppendsDecoded}
use Rattle.borsh_de.proofs.Rooms.{appended}
use Rattle.borsh_de.proofs.fixed.append.Goals as goal

pub returns : goal.returns
returns g c =
    let size : chunks_exact_size (map_source c.map.result) ≡ c.args.width = ap chunks_exact_size c.map.ensures.source ∙ c.chunks_exact.ensures.size in
    let rest : chunks_exact_rest (map_source c.map.result) ≡ c.args.bytes.now = ap chunks_exact_rest c.map.ensures.source ∙ c.chunks_exact.ensures.rest in
    subst (λ b. OnOk c.extend.result (AppendsDecoded g.T.BorshType.codec b c.args.items.now.items c.extend.new.self.items)) rest
    (appended _ g.T.BorshType.codec c.args.width c.requires.some (λ f x r q l k. search (rules, of_calls)) c.extend.result c.requires.whole.0 c.map.result _ _ _ size (ap length rest ∙ c.requires.whole.1) c.extend.ensures.ran)
