-- What a card over bytes means, and the memory card.
use Rattle.std.specs.Prelude.{◌≡◌, ℕ, zero, suc, ◌+◌, ◌*◌, ◌/◌, ◌%◌, ◌<◌, Bool, true, false, cond, ◌&&◌, List, [], ◌∷◌, length, take, drop, ◌==◌, nat_le, slice_index}
use Rattle.store.specs.Meaning.{Meaning, block}

-- the first k blocks of the bytes
unfoldable pub blocks_of : ℕ → List ℕ → List (List ℕ)
blocks_of zero bytes = []
blocks_of (suc k) bytes = take 1024 bytes ∷ blocks_of k (drop 1024 bytes)

-- a card of the first k blocks of the bytes
abbrev pub card_of : Bool → ℕ → List ℕ → Meaning
card_of w k bytes = record { count = k; writable = w; blocks = blocks_of k bytes }

-- Memory card. Are n bytes at most 65,535 whole blocks?
abbrev pub is_whole : ℕ → Bool
is_whole n = n % 1024 == 0 && nat_le (n / 1024) 65535

abbrev pub is_memory_card : List ℕ → Bool
is_memory_card bytes = is_whole (length bytes)

-- how many blocks n bytes are; none where the answer is no
abbrev pub whole_blocks : ℕ → ℕ
whole_blocks n = cond (is_whole n) (n / 1024) 0

abbrev pub memory_blocks : List ℕ → ℕ
memory_blocks bytes = whole_blocks (length bytes)

-- a memory card is always writable
abbrev pub memory_card : List ℕ → Meaning
memory_card bytes = card_of true (memory_blocks bytes) bytes

-- a card over bytes that cannot be written
abbrev pub read_only_card : List ℕ → Meaning
read_only_card bytes = card_of false (memory_blocks bytes) bytes

-- byte i of block n of a memory card is its byte 1024 · n + i
abbrev pub BlocksInOrder : List ℕ → Type 0
BlocksInOrder bytes =
    (n i : ℕ) → n < (memory_card bytes).count → i < 1024
    → slice_index (block (memory_card bytes) n) i ≡ slice_index bytes (1024 * n + i)
