-- Bytes as text, in base64 of the standard alphabet with padding (RFC 4648, section 4).
use Rattle.std.specs.Prelude.{ℕ, List, Option, Some, None, Result, Ok, Err}
use Rattle.base64.specs.Engines.{standard}
use Rattle.base64.specs.GeneralPurpose.{decode_of}

abbrev pub decoded : {E : Type 0} → Result (List ℕ) E → Option (List ℕ)
decoded (Ok bytes) = Some bytes
decoded (Err why) = None

-- the bytes that are encoded so
abbrev pub bytes_of : List ℕ → Option (List ℕ)
bytes_of text = decoded (decode_of standard text)
