pub mod ChannelLemmas
pub mod CodecLemmas
pub mod SpellingLemmas
pub mod StreamLemmas
