-- The limits of this server, for use in contracts. All of them are this project's choice.
use Rattle.std.specs.Prelude.{ℕ, ◌*◌}

-- The largest body of a request, in bytes.
abbrev pub max_request_bytes : ℕ
max_request_bytes = 4194304

-- The longest line of hexadecimal digits, in characters: two for each byte of a body.
abbrev pub max_line_characters : ℕ
max_line_characters = 2 * max_request_bytes

-- The largest BSTR, in bytes.
abbrev pub max_text_bytes : ℕ
max_text_bytes = 1048576

-- The largest number of dimensions of a safe array, which has at least one.
abbrev pub max_dimensions : ℕ
max_dimensions = 16

-- The largest number of elements of a safe array.
abbrev pub max_cells : ℕ
max_cells = 65536

-- The largest number of parameters of a member, including the new value of a put.
abbrev pub max_parameters : ℕ
max_parameters = 16

-- The largest number of arguments of a call, and of named arguments among them.
abbrev pub max_arguments : ℕ
max_arguments = 32

-- The largest number of names in one look-up, which has at least one.
abbrev pub max_names : ℕ
max_names = 17

-- The longest name in a type library, in characters.
abbrev pub max_name_characters : ℕ
max_name_characters = 64

-- The longest text of a library, and its longest canonical text, in bytes.
abbrev pub max_library_bytes : ℕ
max_library_bytes = 262144

-- The largest number of interfaces of a library.
abbrev pub max_interfaces : ℕ
max_interfaces = 256

-- The largest number of coclasses of a library.
abbrev pub max_coclasses : ℕ
max_coclasses = 256

-- The largest number of members of an interface; a get and a put count as two.
abbrev pub max_members : ℕ
max_members = 512

-- The largest encoding of a log record, in bytes.
abbrev pub max_event_bytes : ℕ
max_event_bytes = 4194304

-- The number of bytes of log records from which on a group is committed early.
abbrev pub group_bytes : ℕ
group_bytes = 524288

-- The largest number of objects that exist at the same time.
abbrev pub max_live_objects : ℕ
max_live_objects = 65536

-- The largest number that an object can have.
abbrev pub greatest_object_number : ℕ
greatest_object_number = 4294967294

-- The largest number of locks of one cell.
abbrev pub max_cell_locks : ℕ
max_cell_locks = 65535

-- The largest number of read calls for one record or line.
abbrev pub max_read_calls : ℕ
max_read_calls = 16777216

-- The largest number of records of one session.
abbrev pub max_records : ℕ
max_records = 18446744073709551615
