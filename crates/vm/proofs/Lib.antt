-- The laws of the definition: what is lent is looked at in one place. Before each file what it says.

-- what fits the smaller sizes fits the larger; each size is named there and nowhere else in the laws
pub mod Fits
-- a run of the smaller machine against runs of the larger: what is lent is looked at through `short` alone
pub mod Upward
-- what every step keeps of registers and memory, a run keeps
pub mod Every
-- a run and a host call leave the base alone and, but for an interning, slots and names
pub mod Kept
-- a run on a core keeps the names, stays within what is lent, and goes the same way on a larger machine
pub mod Runs
-- `Holds`: the buffers of a machine hold a core, and still do as parts of it are laid back
pub mod Holds
-- the tests of a call on a machine that holds a core are tests of the core alone
pub mod Refusals
-- a call on a machine that holds a core leaves one that holds a core
pub mod Calls
-- a call is refused by the first test that fails, or done
pub mod Performed
-- what 10 leaves of the buffers' sizes, and how the code computes it
pub mod Buffers
-- a start leaves a machine that holds the same core, whatever was lent, and its image passes its own tests
pub mod Starting
-- an instruction of a checked image goes on inside the code, reads what is there, and stops with a listed number
pub mod Inside
-- demand 1 of a start and of a run: refused by a number of the table, or a listed end within the budget
pub mod Ends
-- what the code answers and leaves at a call is what the definition says, test by test
pub mod Replies
-- a block that the code was given, or refused, and what its pages hold of it
pub mod Blocks
-- an Option written into such a block
pub mod Boxes
-- what the code answers and leaves at a start, test by test
pub mod Loading
-- pushed pages never shrink, and the last one ends in them
pub mod Grows
-- no call changes how many registers there are
pub mod Registers
-- what 9 asks of pages and names is kept by every host call and every run
pub mod Belongs
-- 'An allocation is refused exactly if ..', of the machine's call
pub mod Exactly
-- which kinds of answers each kind of call has, and that their numbers are the table's
pub mod Answered
pub mod Tested
