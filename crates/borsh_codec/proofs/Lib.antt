-- the laws of each shape and of each type
pub mod Laws
-- the steps of reading and writing
pub mod ReadSteps
pub mod ReadParts
pub mod ReadBytes
pub mod ReadRows
pub mod WriteSteps
pub mod WriteOutcomes
pub mod DecodeOutcomes
pub mod DecodeVariants
pub mod DecodeViews
pub mod WriteRows
pub mod PutSteps
pub mod LengthSteps
pub mod NumberBytes
pub mod FloatBits
pub mod ReadWhole
pub mod ReadSums
pub mod DecodeSums
pub mod TextBytes
pub mod KeyOrder
pub mod MadeMaps
pub mod ReadMaps
pub mod SortedRefs
pub mod WriteMaps
-- the laws of enums
pub mod CaseLaws
