use Rattle.std.proofs.Common.{rules, ap, drop, ◌≡◌, ◌+◌, ◌<◌, ◌≤◌, length}
use Rattle.std.proofs.lemmas.Result.{err_from_is_err_and}
use Rattle.borsh_io.proofs.BufferedLaws.{written, unwritten, from_zero, more-read, none-read, read-failed}
use Rattle.borsh_io.proofs.buffered.Buffered.append.Goals as goal

pub returns-in_err-resize : goal.returns-in_err-resize
returns-in_err-resize g c =
    let p = err_from_is_err_and c.from_residual.result c.from_residual.ensures.1 in
    rw p.1 (none-read g.R.Read.stream _ _ p.0 (search rules) (search rules) p.2.0)

pub returns-in-Ok : goal.returns-in-Ok
returns-in-Ok g c =
    let long : 0 < length c.read_some.new.buf = search rules in
    let most : length c.read_some.new.buf ≤ 65536 = search rules in
    let h : c.len-held.result ≡ length c.args.self.now.buffer.items = search rules in
    let room : c.len-held.result + c.in-Ok.length ≤ c.resize.new.self.len = search rules in
    let items = written 65536 _ _ _ c.args.self.now.buffer.items _ _ c.read_some.new.buf _ _ _ _ h c.in_ok-resize.ensures.items c.as_mut_slice.ensures.value c.in-Ok.ensures.bound room c.truncate.ensures.items in
    more-read g.R.Read.stream _ _ c.in-Ok.length c.read_some.new.buf (from_zero _ _ _ _ c.requires.none_taken items) c.in-Ok.ensures.bound long most c.in-Ok.ensures.takes c.in-Ok.ensures.fewer c.in-Ok.ensures.some

pub returns-in-Err : goal.returns-in-Err
returns-in-Err g c =
    let h : c.len-held.result ≡ length c.args.self.now.buffer.items = search rules in
    let room : c.len-held.result ≤ c.resize.new.self.len = search rules in
    let items = unwritten 65536 _ _ c.args.self.now.buffer.items _ _ c.read_some.new.buf _ _ _ _ h c.in_ok-resize.ensures.items c.as_mut_slice.ensures.value room c.truncate-in-Err.ensures.items in
    read-failed g.R.Read.stream _ _ c.in-Err.error (ap (drop c.args.self.now.end) items) c.in-Err.ensures.failed
