use Rattle.std.proofs.Common.{arith, rules, ◌≡◌, ◌*◌, ◌≤◌, drop, length, refl, sym, ◌∙◌, ap, length-append}
use Rattle.std.proofs.lemmas.List.{length-drop, length-take-le}
use Rattle.borsh_codec.proofs.DecodeViews.{as_err, as_memory}
use Rattle.borsh_codec.proofs.ReadSteps.{took_then}
use Rattle.borsh_de.proofs.FixedWidth.{length-each, row_many, same_count, denied_room}
use Rattle.borsh_de.proofs.fixed.read_rooms.Goals as goal

pub returns-in_err-fill : goal.returns-in_err-fill
returns-in_err-fill g c =
    let n = c.next_count-count.result in
    let room : n * c.args.width ≤ length c.rooms.room = omega (arith, c.next_count-count.ensures.fits, c.rooms.invariant.room) in
    as_err _ c.from_residual-in_err-fill.ensures.1 refl (denied_room n (length-take-le (n * c.args.width) c.rooms.room room) c.requires.fixed c.rooms.invariant.so_far (omega (arith, c.next_count-count.ensures.few, c.len-in-rooms.ensures, c.rooms.invariant.few)) c.in_err-fill.ensures.err)

pub rooms-preserved : goal.rooms-preserved
rooms-preserved g c =
    let n = c.next_count-count.result in
    let a = c.in_ok-append.ensures in
    let long : length c.fill.new.buf ≡ n * c.args.width = search rules in
    let count : length a.more ≡ n = same_count (length a.more) n c.args.width c.requires.some (sym (length-each c.requires.fixed _ c.fill.new.buf a.more a.decodes) ∙ long) in
    record {
      so_far = rw a.items (row_many a.more c.requires.fixed c.rooms.invariant.so_far c.in_ok-fill.ensures.ok a.decodes);
      few = omega (arith, ap length a.items, length-append c.rooms.items.items a.more, count, c.next_count-count.ensures.few, c.len-in-rooms.ensures, c.rooms.invariant.few);
      room = omega (arith, long, length-append c.fill.new.buf (drop (n * c.args.width) c.rooms.room), length-drop (n * c.args.width) c.rooms.room, c.next_count-count.ensures.fits, c.rooms.invariant.room);
    }

pub returns-in_err-append : goal.returns-in_err-append
returns-in_err-append g c = as_memory _ refl refl c.from_residual-in_err-append.ensures.1 (took_then c.rooms.invariant.so_far.took c.in_ok-fill.ensures.ok)
