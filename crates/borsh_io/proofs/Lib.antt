pub mod ReadLaws
pub mod WriteLaws
pub mod BufferedLaws
