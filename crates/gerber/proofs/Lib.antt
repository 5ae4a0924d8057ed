-- What the code rests on.
--   Commands   what the code answers to a command
--   Runs       a chunk, command by command
--   Answers    what start, feed and finish answer
mod Commands
mod Runs
mod Answers
