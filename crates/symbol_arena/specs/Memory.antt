-- Inside: what the owner of a block's bytes owns, and what a `&` to it shows.
use Rattle.std.specs.Prelude.{ℕ, ◌+◌, ◌-◌, ◌^◌, List, length}
use base.Fraction.{full_share}
use base.Fml.{Lft, Fml, ffalse, fsep, flt, froom}
use mir.Syntax.{Ty, w8, ty_int, ty_array}
use denote.Builtin.{u8}
use denote.RawPtr.{Ptr, block_ptr, null_ptr}
use denote.RawPtr.Bytes.{bytes}
use denote.Sharing.{said, beside}
use denote.Slice.{elements_shared}

-- the type of a block of so many bytes
abbrev pub block_of : ℕ → Ty
block_of size = ty_array (ty_int w8) size

-- fewer than 2 ^ 63 bytes are written
abbrev pub is_short : List ℕ → Fml
is_short written = flt (length written) (2 ^ 63)

-- room for the bytes of a block behind those that are written
abbrev pub room_behind : ℕ → ℕ → ℕ → List ℕ → Fml
room_behind b o size written = froom (block_of (size - length written)) b (o + length written)

-- the written bytes, and the room behind them
abbrev pub memory_owns : Ptr → ℕ → List ℕ → Fml
memory_owns (block_ptr b o) size written = fsep (is_short written)
    (fsep (bytes full_share written b o) (room_behind b o size written))
memory_owns null_ptr size written = ffalse

-- a `&` shows the written bytes
abbrev pub memory_lends : Ptr → List ℕ → Lft → Fml
memory_lends (block_ptr b o) written = beside (said (is_short written))
    (elements_shared u8 written b o)
memory_lends null_ptr written = said ffalse
