use Rattle.std.proofs.Common.{◌∙◌, ◌+◌, drop, false, true≢false, sym, ap, subst, arith}
use Rattle.std.proofs.lemmas.List.{take_rest}
use Rattle.borsh_codec.specs.Shapes.{append_encodings, concat_encodings}
use Rattle.borsh_codec.proofs.PutSteps.{all_joined-front, front_within}
use Rattle.borsh_codec.proofs.WriteOutcomes.{so_far_exit, so_far_rest, writes_own}
use Rattle.borsh_codec.specs.Writing.{WritesEncoding}
use Rattle.borsh_codec.proofs.WriteSteps.{so_far_none, so_far_more}
use Rattle.borsh_ser.proofs.rooms.write_by_room.Goals as goal

pub loop-next-init : goal.loop-next-init
loop-next-init g c = record { within = omega arith; so_far = so_far_none g.met.W.Write.lawful _ _ }

pub returns-then-count-lt2 : goal.returns-then-count-lt2
returns-then-count-lt2 g c =
    let f = g.T.BorshType.codec.encoding in
    let p = c.put_front-count.ensures in
    let next = c.loop-next.next in
    let n = c.put_front-count.result.0 in
    let more = concat_encodings f (drop (next + n) c.args.items.now) in
    let front = all_joined-front f c.args.items.now next _ n p.some ∙ ap (λ z. append_encodings z more) p.put.put.1 in
    so_far_rest g.met.W.Write.lawful (so_far_more g.met.W.Write.lawful c.loop-next.invariant.so_far front c.in_ok-write_held.ensures.ok)
    (subst (λ l. WritesEncoding g.W.Write.writing c.write_held.new.writer c.write_one_by_one.new.writer g.T.BorshType.codec.encoding_allocates false (concat_encodings f l) c.write_one_by_one.result) (take_rest c.args.items.now (next + n)) c.write_one_by_one.ensures)

pub returns-in_err-write_held : goal.returns-in_err-write_held
returns-in_err-write_held g c =
    let f = g.T.BorshType.codec.encoding in
    let p = c.put_front-count.ensures in
    let next = c.loop-next.next in
    let n = c.put_front-count.result.0 in
    let more = concat_encodings f (drop (next + n) c.args.items.now) in
    let front = all_joined-front f c.args.items.now next _ n p.some ∙ ap (λ z. append_encodings z more) p.put.put.1 in
    writes_own (λ t. absurd (true≢false (sym t))) (so_far_exit g.met.W.Write.lawful more _ c.from_residual.ensures.1 c.loop-next.invariant.so_far front c.in_err-write_held.ensures.err)

pub loop-next-preserved : goal.loop-next-preserved
loop-next-preserved g c =
    let f = g.T.BorshType.codec.encoding in
    let p = c.put_front-count.ensures in
    let next = c.loop-next.next in
    let n = c.put_front-count.result.0 in
    let more = concat_encodings f (drop (next + n) c.args.items.now) in
    let front = all_joined-front f c.args.items.now next _ n p.some ∙ ap (λ z. append_encodings z more) p.put.put.1 in
    record {
      within = front_within c.args.items.now next _ n c.loop-next.invariant.within p.some;
      so_far = so_far_more g.met.W.Write.lawful c.loop-next.invariant.so_far front c.in_ok-write_held.ensures.ok;
    }
