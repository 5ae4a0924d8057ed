-- What is proved of the language.
--   Rests         the modes between commands, and line ends
--   Inside        reading on inside a command
--   Found         what bytes inside a command turn out to be: refused, a whole word, the beginning of one
--   Words         .. behind the first bytes of a fixed word, in a comment, in a choice
--   Plots         .. in a number and behind it
--   Commands      .. from the first byte of a command on, by phase
--   Walks         the bytes of a command, followed by mode and numbers
--   Numbers       .. those of a number
--   Axes          .. those of a plot
--   Spelt         .. those of each command that Grammar spells
--   Comes         bytes that start with a spelled command, or a spelled command with them, are not refused
--   EachFile      every file is read in some way
--   OneForm       bytes start with one spelled command at most
--   OneWay        a file is read in one way only
--   Heard         what is heard inside a command, behind it and at rest
--   HeardExactly  what is heard of a file is what its reading says
--   Theorems      the claims
pub mod Rests
pub mod Inside
pub mod Found
pub mod Words
pub mod Plots
pub mod Commands
pub mod Walks
pub mod Numbers
pub mod Axes
pub mod Spelt
pub mod Comes
pub mod EachFile
pub mod OneForm
pub mod OneWay
pub mod Heard
pub mod HeardExactly
pub mod Theorems
