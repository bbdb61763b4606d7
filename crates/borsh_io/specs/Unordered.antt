-- The reader under one that takes keys in any order.
use Rattle.borsh_io.specs.declared.unordered.Unordered.{Unordered}

abbrev pub unordered_inner : {R : Type 0} → Unordered R → R
unordered_inner u = u.inner
