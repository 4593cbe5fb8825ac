pub mod SizesAt
pub mod BlockAt
pub mod HeadBytes
pub mod GroupsInBlocks
pub mod Seeking
pub mod NamesAlong
pub mod Looking
pub mod Settled
