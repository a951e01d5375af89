mod CommandLemmas
mod NameLemmas
mod NumberLemmas
mod ReaderLemmas
mod RequestLemmas
mod OneReading
mod Spelling
