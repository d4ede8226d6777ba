-- The laws of what the judge's passes hold.
mod CountLaws
mod DepthLaws
mod LowestLaws
