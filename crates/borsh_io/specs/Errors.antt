-- What a clause reads of an error.
use Rattle.std.specs.Prelude.{Option, None, Some, List, ℕ, string_bytes, codes}
use Rattle.borsh_io.specs.declared.error.Error.{Error}
use Rattle.borsh_io.specs.declared.error.Text.{Text}
use Rattle.borsh_io.specs.declared.error.Text.TheVariants.{Fixed, Owned}
use Rattle.borsh_io.specs.declared.error.ErrorKind.{ErrorKind}
use Rattle.borsh_io.specs.declared.error.ErrorKind.TheVariants.{NotFound, PermissionDenied, ConnectionRefused, ConnectionReset, ConnectionAborted, NotConnected, AddrInUse, AddrNotAvailable, BrokenPipe, AlreadyExists, WouldBlock, InvalidInput, InvalidData, TimedOut, WriteZero, Interrupted, Other, UnexpectedEof, OutOfMemory}

-- `e.kind()`
abbrev pub error_kind : Error → ErrorKind
error_kind e = e.kind

-- the error's own text, if it has one
abbrev pub error_text : Error → Option Text
error_text e = e.text

-- the bytes of a text
abbrev pub text_bytes : Text → List ℕ
text_bytes (Fixed s) = s.now
text_bytes (Owned s) = string_bytes s

-- the text of an error that has none of its own
abbrev pub kind_text : ErrorKind → List ℕ
kind_text NotFound = codes "entity not found"
kind_text PermissionDenied = codes "permission denied"
kind_text ConnectionRefused = codes "connection refused"
kind_text ConnectionReset = codes "connection reset"
kind_text ConnectionAborted = codes "connection aborted"
kind_text NotConnected = codes "not connected"
kind_text AddrInUse = codes "address in use"
kind_text AddrNotAvailable = codes "address not available"
kind_text BrokenPipe = codes "broken pipe"
kind_text AlreadyExists = codes "entity already exists"
kind_text WouldBlock = codes "operation would block"
kind_text InvalidInput = codes "invalid input parameter"
kind_text InvalidData = codes "invalid data"
kind_text TimedOut = codes "timed out"
kind_text WriteZero = codes "write zero"
kind_text Interrupted = codes "operation interrupted"
kind_text Other = codes "other os error"
kind_text UnexpectedEof = codes "unexpected end of file"
kind_text OutOfMemory = codes "out of memory"

-- what an error displays
abbrev pub display_text : ErrorKind → Option Text → List ℕ
display_text kind None = kind_text kind
display_text kind (Some t) = text_bytes t
