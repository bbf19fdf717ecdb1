-- What a line writes, from what `serde_json` says of its bytes.
use Rattle.std.proofs.Common.{◌≡◌, ◌<◌, lt-ltb, ℕ, nat_lt, length, List, Bool, true, false, cond, Some, None, refl}
use Rattle.std.specs.Str.{IsUtf8, is_utf8}
use Rattle.std.proofs.lemmas.Str.{IsUtf8-from_is_utf8, is_utf8-from_IsUtf8}
use Rattle.serde_json.specs.Data.{Data}
use Rattle.serde_json.specs.Read.{read}
use Rattle.wiki_io.specs.declared.limits.TheConstants.{MAX_LINE}
use Rattle.wire_json.specs.Requests.{data_of, request_in, request_of, line_request_in, line_request_of}

pub data_of_read : (line : List ℕ) (d : Data) → IsUtf8 line → read line ≡ Some d → data_of line ≡ Some d
data_of_read line d utf8 reads = rw (is_utf8-from_IsUtf8 line utf8) reads

unless_utf8 : (line : List ℕ) (b : Bool) → is_utf8 line ≡ b → (IsUtf8 line → read line ≡ None) → cond b (read line) None ≡ None
unless_utf8 line true is fails = fails (IsUtf8-from_is_utf8 line is)
unless_utf8 line false is fails = refl

pub data_of_unread : (line : List ℕ) → (IsUtf8 line → read line ≡ None) → data_of line ≡ None
data_of_unread line fails = unless_utf8 line (is_utf8 line) refl fails

-- the request of a short line is that of the value that it writes
pub request_of_read : (line : List ℕ) (d : Data) → length line < MAX_LINE → IsUtf8 line → read line ≡ Some d → request_of line ≡ request_in d
unfolding request_of
request_of_read line d short utf8 reads =
    let fits : nat_lt (length line) MAX_LINE ≡ true = lt-ltb (length line) MAX_LINE short in
    rw (fits, data_of_read line d utf8 reads)

-- a short line that writes no value is no request
pub request_of_unread : (line : List ℕ) → length line < MAX_LINE → (IsUtf8 line → read line ≡ None) → request_of line ≡ None
unfolding request_of
request_of_unread line short fails =
    let fits : nat_lt (length line) MAX_LINE ≡ true = lt-ltb (length line) MAX_LINE short in
    rw (fits, data_of_unread line fails)

-- the same of what a line of the input asks
pub line_request_of_read : (line : List ℕ) (d : Data) → length line < MAX_LINE → IsUtf8 line → read line ≡ Some d → line_request_of line ≡ line_request_in d
unfolding line_request_of
line_request_of_read line d short utf8 reads =
    let fits : nat_lt (length line) MAX_LINE ≡ true = lt-ltb (length line) MAX_LINE short in
    rw (fits, data_of_read line d utf8 reads)

pub line_request_of_unread : (line : List ℕ) → length line < MAX_LINE → (IsUtf8 line → read line ≡ None) → line_request_of line ≡ None
unfolding line_request_of
line_request_of_unread line short fails =
    let fits : nat_lt (length line) MAX_LINE ≡ true = lt-ltb (length line) MAX_LINE short in
    rw (fits, data_of_unread line fails)
