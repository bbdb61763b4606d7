mod Told
mod Painting
mod Sending
mod Failing
mod TextLaws
mod LineLaws
mod StopLaws
mod ManyLaws
mod Printing
mod FrontLaws
pub mod Comparing
