pub mod TextLemmas
pub mod RefusalLemmas
pub mod TranslatedLemmas
pub mod FunctionLemmas
pub mod SignatureLemmas
