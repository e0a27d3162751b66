-- The number of each question, the layer of each number, and what a fault carries.
use Rattle.std.specs.Prelude.{ℕ, cond, nat_le}
use Rattle.fault.specs.declared.Reason.{Reason}
use Rattle.fault.specs.declared.Reason.TheVariants.{WrongLength, LineTooLong, BadLookupName, NothingFollows, BadName, BrokenLink, NotFound, NoDefinition, DefinitionOpen, WordRunning, NoWordRunning, StackUnderflow, StackOverflow, ReturnUnderflow, ReturnOverflow, OutOfReach, BadQuotient, BadBase, BadMark, DictionaryFull, DataFull, BadToken, BelowFence, NotCreated, BadLoad, NoBlock, NotWritable, Aborted}
use Rattle.fault.specs.declared.Layer.{Layer}
use Rattle.fault.specs.declared.Layer.TheVariants.{Calls, Text, State, Word, Compiler, Store}
use Rattle.fault.specs.declared.Place.{Place}
use Rattle.fault.specs.declared.Fault.{Fault}

abbrev pub number_of : Reason → ℕ
-- Calls: are the lengths right? Is the line at most 128 bytes? Is the name looked up 1 to 31 bytes from 33 to 126?
number_of WrongLength = 1
number_of LineTooLong = 2
number_of BadLookupName = 3
-- Text: does a name, a `)` or a `"` follow? Is each word taken a name? Is each link walked in order? Is the word found, or a number?
number_of NothingFollows = 4
number_of BadName = 5
number_of BrokenLink = 6
number_of NotFound = 7
-- State: is a definition open? Is none open? Is IP 0? Is IP not 0?
number_of NoDefinition = 8
number_of DefinitionOpen = 9
number_of WordRunning = 10
number_of NoWordRunning = 11
-- Word: are the data cells there? Space? The return cells? Space? Is the address in reach? Has the division a quotient in a cell? Is BASE 2 to 36?
number_of StackUnderflow = 12
number_of StackOverflow = 13
number_of ReturnUnderflow = 14
number_of ReturnOverflow = 15
number_of OutOfReach = 16
number_of BadQuotient = 17
number_of BadBase = 18
-- Compiler: the marks? Dictionary space? Data space? The token and its cells? Is W at FENCE or above? Is the newest a created word? May the block be loaded?
number_of BadMark = 19
number_of DictionaryFull = 20
number_of DataFull = 21
number_of BadToken = 22
number_of BelowFence = 23
number_of NotCreated = 24
number_of BadLoad = 25
-- Store: is the block below the count? Is the store writable?
number_of NoBlock = 26
number_of NotWritable = 27
-- ABORT
number_of Aborted = 28

-- 1 to 3 calls, 4 to 7 text, 8 to 11 state, 12 to 18 and 28 word, 19 to 25 compiler, 26 and 27 store
abbrev pub layer_of : ℕ → Layer
layer_of n =
    cond (nat_le n 3) Calls
    (cond (nat_le n 7) Text
    (cond (nat_le n 11) State
    (cond (nat_le n 18) Word
    (cond (nat_le n 25) Compiler
    (cond (nat_le n 27) Store Word)))))

-- a fault for a reason, with BLK and the last word's place and length
abbrev pub fault_of : Reason → Place → Fault
fault_of why told = record { reason = why; place = told }

abbrev pub place_of : ℕ → ℕ → ℕ → Place
place_of b p n = record { blk = b; start = p; length = n }
