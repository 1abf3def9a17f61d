-- Document 01, with the attributes of request 8: limits, status numbers and attributes.
use Rattle.std.specs.Prelude.{ℕ, Bool, leb, eqb}
use Rattle.laws.specs.Choose.{choose, ◌and◌, ◌or◌}

-- tasks 1..32, slots 1..64, priorities 1..255, generations 0..65535, every other number 0..4294967295
abbrev pub max_tasks : ℕ
max_tasks = 32

abbrev pub max_slots : ℕ
max_slots = 64

abbrev pub max_priority : ℕ
max_priority = 255

abbrev pub max_generation : ℕ
max_generation = 65535

abbrev pub max_number : ℕ
max_number = 4294967295

-- a number from `low` to `high`
abbrev pub within : ℕ → ℕ → ℕ → Bool
within low high n = leb low n and leb n high

-- status numbers: those of the RTEMS Classic headers, and our own 100
abbrev pub successful : ℕ
successful = 0

abbrev pub invalid_name : ℕ
invalid_name = 3

abbrev pub invalid_id : ℕ
invalid_id = 4

abbrev pub too_many : ℕ
too_many = 5

abbrev pub timeout : ℕ
timeout = 6

abbrev pub object_was_deleted : ℕ
object_was_deleted = 7

-- request 2: of the state file alone
abbrev pub invalid_size : ℕ
invalid_size = 8

abbrev pub invalid_number : ℕ
invalid_number = 10

abbrev pub not_defined : ℕ
not_defined = 11

abbrev pub resource_in_use : ℕ
resource_in_use = 12

abbrev pub unsatisfied : ℕ
unsatisfied = 13

abbrev pub incorrect_state : ℕ
incorrect_state = 14

abbrev pub called_from_isr : ℕ
called_from_isr = 18

abbrev pub invalid_priority : ℕ
invalid_priority = 19

abbrev pub not_owner_of_resource : ℕ
not_owner_of_resource = 23

abbrev pub internal_error : ℕ
internal_error = 25

abbrev pub waiting : ℕ
waiting = 100

-- request 6: timeouts that are no number of ticks, and the standard limit in ticks
abbrev pub standard_timeout : ℕ
standard_timeout = 0

abbrev pub standard_limit : ℕ
standard_limit = 500

abbrev pub no_timeout : ℕ
no_timeout = 4294967295

-- attributes that create allows: 4 is PRIORITY (else FIFO); 16 is binary, 32 simple binary, neither counting;
-- request 8: 64 is inheritance, with both 16 and 4 only
abbrev pub allowed : ℕ → Bool
allowed a = eqb a 0 or eqb a 4 or eqb a 16 or eqb a 20 or eqb a 32 or eqb a 36 or eqb a 84

abbrev pub by_priority : ℕ → Bool
by_priority a = eqb a 4 or eqb a 20 or eqb a 36 or eqb a 84

-- binary with owner
abbrev pub is_binary : ℕ → Bool
is_binary a = eqb a 16 or eqb a 20 or eqb a 84

-- binary with owner, PRIORITY and inheritance
abbrev pub inherits : ℕ → Bool
inherits a = eqb a 84

-- simple binary
abbrev pub is_simple : ℕ → Bool
is_simple a = eqb a 32 or eqb a 36

-- request 4: the greatest maximum of a class, 4294967295 for counting and 1 for both binary classes
abbrev pub class_maximum : ℕ → ℕ
class_maximum a = choose (is_binary a or is_simple a) 1 max_number

-- the maxima that create allows: 1 to 4294967295 for counting; both binary classes must be given 1
abbrev pub allowed_maximum : ℕ → ℕ → Bool
allowed_maximum a m = within 1 (class_maximum a) m

-- the maximum m is one create allows, and the count at most that
abbrev pub allowed_count : ℕ → ℕ → ℕ → Bool
allowed_count count a m = allowed_maximum a m and leb count m
